use Rattle.std.proofs.Common.{◌≡◌, true, sym, subst, ◌∙◌, inl, inr}
use Rattle.std.proofs.lemmas.Bool.{and_parts}
use Rattle.net_base.specs.declared.peer.Temp.TheVariants.{Cold, Warm, Hot}
use Rattle.govern_rules.specs.Tasks.{may_be_given}
use Rattle.govern_rules.proofs.Nobody.{none-given, none-asked}
use Rattle.govern_rules.proofs.candidates.has_nobody.Goals as goal

pub returns-then-is_empty : goal.returns-then-is_empty
returns-then-is_empty c = λ none.
    let warm = sym c.listed.ensures.value ∙ c.is_empty.ensures.0 c.if-is_empty.true in
    let hot = sym c.listed-then-is_empty.ensures.value ∙ c.is_empty-then-is_empty.ensures.0 none in
    rw c.in-Asking.is (none-asked c.in-Asking.field-0 c.args.book.now warm hot)

pub returns-in-Forgetting : goal.returns-in-Forgetting
returns-in-Forgetting c = λ none.
    let listed = sym c.listed-in-Forgetting.ensures.value ∙ c.is_empty-in-Forgetting.ensures.0 none in
    elim c.in-Forgetting.is [
      | inl e ↦ none-given c.args.task Cold c.args.book.now (λ moment links p h. (and_parts _ _ (subst (λ t. may_be_given t moment links p ≡ true) e h)).0) listed
      | inr e ↦
          none-given c.args.task Cold c.args.book.now
          (λ moment links p h. (and_parts _ _ (and_parts _ _ (and_parts _ _ (subst (λ t. may_be_given t moment links p ≡ true) e h)).0).0).0) listed
    ]

pub returns-in-Releasing : goal.returns-in-Releasing
returns-in-Releasing c = λ none.
    let listed = sym c.listed-in-Releasing.ensures.value ∙ c.is_empty-in-Releasing.ensures.0 none in
    elim c.in-Releasing.is [
      | inl e ↦ none-given c.args.task Warm c.args.book.now (λ moment links p h. (and_parts _ _ (subst (λ t. may_be_given t moment links p ≡ true) e h)).0) listed
      | inr e ↦ none-given c.args.task Warm c.args.book.now (λ moment links p h. (and_parts _ _ (subst (λ t. may_be_given t moment links p ≡ true) e h)).0) listed
    ]

pub returns-in-Deactivating : goal.returns-in-Deactivating
returns-in-Deactivating c = λ none.
    none-given c.args.task Hot c.args.book.now (λ moment links p h. subst (λ t. may_be_given t moment links p ≡ true) c.in-Deactivating.is h)
    (sym c.listed-in-Deactivating.ensures.value ∙ c.is_empty-in-Deactivating.ensures.0 none)
