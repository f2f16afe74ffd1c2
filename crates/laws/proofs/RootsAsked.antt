-- The public root peers are asked for where they are wanted.
use Rattle.std.proofs.Common.{◌≡◌, refl, arith}
use Rattle.laws.specs.Acts.{Act, asks_for_roots, connects, does}
use Rattle.laws.specs.Words.{may_ask, Machine}
use Rattle.laws.specs.RootsAsked.{asked_by, roots_asked, AsksRight}
use Rattle.laws.specs.Parts.{IsNext}
use Rattle.laws.proofs.Walk.{Finds}
use Rattle.laws.proofs.Silent.{asked-deaf, connects-silent, part-silent}

roots-asked : (m : Machine) → AsksRight asks_for_roots m (does asks_for_roots m)
roots-asked m = grind arith

pub roots-set : (m : Machine) → (does asks_for_roots m).machine ≡ record m { roots = roots_asked (may_ask m.now m.targets.root m.roots) m.roots }
roots-set m = grind arith

pub asks-right : (act : Act) (m : Machine) → IsNext act m → Finds act m → AsksRight act m (does act m)
asks-right asks_for_roots m next found = roots-asked m
asks-right (connects addr) m next found = connects-silent asked_by asked-deaf (λ cid to. refl) (λ why. refl) (λ length. refl) addr m
asks-right other m next found = part-silent asked_by asked-deaf (λ cid bytes. refl) other m tt next found
