-- Pieces and texts that are taken one after another.
use Rattle.std.proofs.Common.{◌≡◌, ℕ, ◌+◌, ◌<◌, List, ◌∷◌, ◌++◌, length, get_or, take, drop, Option, Result, Ok, Err, OnOk, OnErr, inl, inr, sym, ap, ◌∙◌, subst, arith}
use Rattle.std.specs.Borrow.{Bor}
use Rattle.std.specs.List.{flat_map}
use Rattle.std.proofs.lemmas.List.{append_assoc, length-append, drop_more, take-append-drop}
use Rattle.std.proofs.lemmas.List.Concat.{flat_map-append}
use Rattle.io_edge.specs.Causes.{Rose}
use Rattle.io_edge.specs.Told.{Takes, TakesProperPrefix}
use Rattle.io_edge.specs.declared.failed.Failed.{Failed}
use Rattle.io_edge.proofs.ToldLemmas.{Takes-append, TakesProperPrefix-after}
use Rattle.tool_status.specs.Telling.{Says, IsTold}

-- a front of some bytes is a front of more of them
pub TakesProperPrefix-more : (before after : Option (List ℕ)) (xs ys : List ℕ) → TakesProperPrefix before after xs → TakesProperPrefix before after (xs ++ ys)
TakesProperPrefix-more before after xs ys part = record {
  front = part.front;
  rest = part.rest ++ ys;
  split = ap (λ (zs : List ℕ). zs ++ ys) part.split ∙ append_assoc part.front part.rest ys;
  proper = omega (arith, part.proper, length-append part.rest ys);
  taken = part.taken;
}

abbrev pub joined : List (Bor (List ℕ)) → List ℕ
joined = flat_map (λ piece. piece.now)

-- a piece after whole ones is cut short, and none comes behind it
pub cut_pieces : (first second third : Option (List ℕ)) (pieces : List (Bor (List ℕ))) (i : ℕ) (d : Bor (List ℕ)) (bytes : List ℕ) → i < length pieces →
    bytes ≡ (get_or pieces i d).now → Takes first second (joined (take i pieces)) → TakesProperPrefix second third bytes → TakesProperPrefix first third (joined pieces)
cut_pieces first second third pieces i d bytes within is whole part =
    let cut : pieces ≡ take i pieces ++ get_or pieces i d ∷ drop (i + 1) pieces =
    sym (take-append-drop i pieces) ∙ ap (λ (ps : List (Bor (List ℕ))). take i pieces ++ ps) (drop_more pieces i d within) in
    let text : joined pieces ≡ (joined (take i pieces) ++ bytes) ++ joined (drop (i + 1) pieces) =
    ap joined cut ∙ flat_map-append (λ piece. piece.now) (take i pieces) (get_or pieces i d ∷ drop (i + 1) pieces)
    ∙ ap (λ (xs : List ℕ). joined (take i pieces) ++ (xs ++ joined (drop (i + 1) pieces))) (sym is)
    ∙ sym (append_assoc (joined (take i pieces)) bytes (joined (drop (i + 1) pieces))) in
    subst (λ (xs : List ℕ). TakesProperPrefix first third xs) (sym text)
    (TakesProperPrefix-more first third _ (joined (drop (i + 1) pieces)) (TakesProperPrefix-after first second third _ bytes whole part))

-- one text behind another
pub told_both : (t0 t1 t2 : Option (List ℕ)) (f0 f1 f2 : ℕ) (first second : List ℕ) (r s : Result (Unit {0}) Failed) → Says t0 t1 f0 f1 first r →
    OnOk r (Says t1 t2 f1 f2 second s) → OnErr r (t2 ≡ t1) → OnErr r (f2 ≡ f1) → IsTold t0 t2 f0 f2 (first ++ second)
told_both t0 t1 t2 f0 f1 f2 first second (Ok done) s says behind cut_taken cut_faults = by_second s behind
  where
    by_second : (s : Result (Unit {0}) Failed) → Says t1 t2 f1 f2 second s → IsTold t0 t2 f0 f2 (first ++ second)
    by_second (Ok done) more = inl (Takes-append t0 t1 t2 first second says.whole more.whole)
    by_second (Err failed) more =
        inr (subst (λ (f : ℕ). Rose f f2) says.cause.calm more.cause.failed, TakesProperPrefix-after t0 t1 t2 first second says.whole more.part)
told_both t0 t1 t2 f0 f1 f2 first second (Err failed) s says behind cut_taken cut_faults =
    inr (
      subst (λ (f : ℕ). Rose f0 f) (sym cut_faults) says.cause.failed,
      TakesProperPrefix-more t0 t2 first second (subst (λ (t : Option (List ℕ)). TakesProperPrefix t0 t first) (sym cut_taken) says.part),
    )
