-- What stands behind some bytes, once words were printed one behind another.
use Rattle.std.proofs.Common.{◌≡◌, ℕ, List, [], ◌∷◌, ◌++◌, append_assoc, append-nil}

-- four octets, joined by full stops, a colon and a port, each put in front of what stands
pub ipv4_put : (o1 o2 o3 o4 port b0 b1 b2 b3 b4 : List ℕ) → b0 ≡ port ++ [] → b1 ≡ o4 ++ 58 ∷ b0 → b2 ≡ o3 ++ 46 ∷ b1 → b3 ≡ o2 ++ 46 ∷ b2 → b4 ≡ o1 ++ 46 ∷ b3 →
    b4 ≡ (o1 ++ 46 ∷ (o2 ++ 46 ∷ (o3 ++ 46 ∷ o4))) ++ 58 ∷ port
ipv4_put o1 o2 o3 o4 port b0 b1 b2 b3 b4 e0 e1 e2 e3 e4 = rw (e4, e3, e2, e1, e0) (simp (append_assoc, append-nil))
