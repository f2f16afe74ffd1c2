use Rattle.std.proofs.Common.{◌≡◌, ℕ, ◌≤◌, Bool, true, false, not, cond, ltb, List, length, Some, None, refl, ap, ◌∙◌, arith, rules, tests}
use Rattle.std.specs.Option.{unwrap_or}
use Rattle.std.proofs.lemmas.Bool.Decides.{nat_tests}
use Rattle.std.proofs.lemmas.Iterator.{YieldsList-from_slice}
use Rattle.std.proofs.lemmas.Iterator.Search.{position_from_yields_List}
use Rattle.std.proofs.lemmas.List.Sums.{prefix_len-le-length}
use Rattle.pick_policy.specs.Kept.{place_of}
use Rattle.pick_policy.specs.Ordered.{scored_below}
use Rattle.pick_policy.specs.declared.scored.Scored.{Scored}
use Rattle.pick_policy.proofs.short_list.ShortList.place_of.Goals as goal

place_or_end : (p n : ℕ) → p ≤ n → (b : Bool) → ltb p n ≡ b → unwrap_or (cond b (Some p) None) n ≡ p
place_or_end p n upto true e = refl
place_or_end p n upto false e = grind (arith, nat_tests)

pub returns-clause-value : goal.returns-clause-value
returns-clause-value c =
    let least : List Scored = c.args.self.now.least.items in
    let s : Scored = c.args.scored.now in
    let found : c.position-above.result ≡ cond (ltb (place_of s least) (length least)) (Some (place_of s least)) None =
    position_from_yields_List (λ t. not (scored_below t s)) _ _ c.position-above.result c.position-above.ensures.ran
    (YieldsList-from_slice least (c.iter.ensures.rest ∙ c.deref.ensures.value)) (λ x b q k. search (rules, tests)) in
    c.unwrap_or.ensures
    ∙ (ap (λ o. unwrap_or o c.len.result) found
    ∙ (ap (unwrap_or (cond (ltb (place_of s least) (length least)) (Some (place_of s least)) None)) (omega (arith, c.len.ensures, c.args.self.now.least.ok.0))
    ∙ place_or_end (place_of s least) (length least) (prefix_len-le-length _ least) _ refl))
