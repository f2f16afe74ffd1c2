use Rattle.std.proofs.Common.{rules, ◌≡◌, length, get_or, set, take, ℕ, ◌+◌, ◌<◌, List, [], ◌∷◌, ◌++◌, subst, sym, take_all, arith}
use Rattle.std.proofs.lemmas.Grind.{take_at_read}
use Rattle.std.proofs.lemmas.List.{take_more_set}
use Rattle.network_scenario.specs.Ranges.{IsIn, AreIn}
use Rattle.network_scenario.specs.declared.values.Row.{Row}
use Rattle.network_scenario.proofs.values.numbers.Goals as goal

AreIn-one_more : (rows : List Row) (numbers : List ℕ) (row : Row) (n : ℕ) → AreIn rows numbers → IsIn row.1 row.2 n → AreIn (rows ++ row ∷ []) (numbers ++ n ∷ [])
AreIn-one_more [] [] row n all is = (is, tt)
AreIn-one_more [] (m ∷ ms) row n all is = absurd all
AreIn-one_more (r ∷ rs) [] row n all is = absurd all
AreIn-one_more (r ∷ rs) (m ∷ ms) row n all is = (all.0, AreIn-one_more rs ms row n all.1 is)

-- the number at the next place is set
AreIn-set : (rows : List Row) (numbers : List ℕ) (i n : ℕ) (d : Row) → i < length rows → i < length numbers → AreIn (take i rows) (take i numbers) →
    IsIn (get_or rows i d).1 (get_or rows i d).2 n → AreIn (take (i + 1) rows) (take (i + 1) (set numbers i n))
AreIn-set rows numbers i n d row number all is =
    subst (λ (r : List Row). AreIn r (take (i + 1) (set numbers i n))) (sym (take_at_read rows i d row).1)
    (subst (λ (ns : List ℕ). AreIn (take i rows ++ get_or rows i d ∷ []) ns) (sym (take_more_set numbers i n number)) (AreIn-one_more (take i rows) (take i numbers) _ n all is))

pub loop-place-preserved : goal.loop-place-preserved
loop-place-preserved g c = record {
  long = search rules;
  within = AreIn-set c.args.rows.now c.loop-place.found c.loop-place.place c.in_ok-found.field-0 _ (omega (arith, c.requires, c.loop-place-test.true))
      (omega (arith, c.loop-place.invariant.long, c.loop-place-test.true)) c.loop-place.invariant.within c.in_ok-found.ensures;
}

pub returns : goal.returns
returns g c =
    let i : ℕ = c.loop-place.place in
    subst (λ (rows : List Row). AreIn rows c.loop-place.found) (take_all i c.args.rows.now (omega (arith, c.requires)))
    (subst (λ (found : List ℕ). AreIn (take i c.args.rows.now) found) (take_all i c.loop-place.found (omega (arith, c.loop-place.invariant.long))) c.loop-place.invariant.within)
