use Rattle.std.proofs.Common.{◌≡◌, length, rules, true, sym, ap, subst, ◌∙◌, inl, inr}
use Rattle.std.specs.List.{filter}
use Rattle.std.specs.List.Sorted.{IsPermutation}
use Rattle.std.proofs.lemmas.Result.{IfOk-weaker}
use Rattle.net_base.specs.declared.peer.Peer.{Peer}
use Rattle.net_base.specs.declared.peer.Temp.TheVariants.{Warm, Hot}
use Rattle.peer_book.specs.Book.{same_temp}
use Rattle.govern_rules.specs.Search.{suits}
use Rattle.govern_rules.proofs.Apart.{distinct_book, filter_apart, nothing}
use Rattle.govern_rules.proofs.Rows.{permuted, among-row, among-both}
use Rattle.govern_rules.proofs.Suiting.{suits-established, suits-released, suits-activated, suits-deactivated}
use Rattle.govern_rules.proofs.candidates.candidates.Goals as goal

pub returns-in-Asking-clause-value : goal.returns-in-Asking-clause-value
returns-in-Asking-clause-value c =
    let book = c.args.book.now in
    let test = suits c.args.search.now in
    let rows = among-both test book (λ p. suits-established c.args.search.now c.in-Asking.field-0 p c.in-Asking.is)
    (distinct_book book c.is_empty.ensures.ordered) in
    IfOk-weaker c.established.result _ _ (λ cands e. subst (IsPermutation (filter test book)) (sym e) rows) c.established.ensures

pub returns-in-Asking-clause-apart : goal.returns-in-Asking-clause-apart
returns-in-Asking-clause-apart c =
    IfOk-weaker c.established.result _ _
    (λ cands moved. filter_apart (suits c.args.search.now) c.args.book.now cands c.is_empty.ensures.ordered moved)
    (returns-in-Asking-clause-value c)

pub returns-in-Forgetting-clause-apart : goal.returns-in-Forgetting-clause-apart
returns-in-Forgetting-clause-apart c =
    let book = c.args.book.now in
    let test = suits c.args.search.now in
    IfOk-weaker c.known.result _ _
    (λ cands e. filter_apart test book cands c.is_empty.ensures.ordered
    (permuted (filter test book) cands e))
    c.known.ensures

pub returns-in-Releasing-clause-value : goal.returns-in-Releasing-clause-value
returns-in-Releasing-clause-value c =
    let book = c.args.book.now in
    let search = c.args.search.now in
    let test = suits search in
    let only : (p : Peer) → test p ≡ true → same_temp p.temp Warm ≡ true =
    elim c.in-Releasing.is [ inl e ↦ λ p. suits-released search p e | inr e ↦ λ p. suits-activated search p e ] in
    let rows = among-row Warm test book only (distinct_book book c.is_empty.ensures.ordered) in
    IfOk-weaker c.listed.result _ _
    (λ cands e. permuted (filter test book) cands (e ∙ rows)) c.listed.ensures

pub returns-in-Releasing-clause-apart : goal.returns-in-Releasing-clause-apart
returns-in-Releasing-clause-apart c =
    IfOk-weaker c.listed.result _ _
    (λ cands moved. filter_apart (suits c.args.search.now) c.args.book.now cands c.is_empty.ensures.ordered moved)
    (returns-in-Releasing-clause-value c)

pub returns-in-Deactivating-clause-value : goal.returns-in-Deactivating-clause-value
returns-in-Deactivating-clause-value c =
    let book = c.args.book.now in
    let search = c.args.search.now in
    let test = suits search in
    let rows = among-row Hot test book (λ p. suits-deactivated search p c.in-Deactivating.is) (distinct_book book c.is_empty.ensures.ordered) in
    IfOk-weaker c.listed-in-Deactivating.result _ _
    (λ cands e. permuted (filter test book) cands (e ∙ rows))
    c.listed-in-Deactivating.ensures

pub returns-in-Deactivating-clause-apart : goal.returns-in-Deactivating-clause-apart
returns-in-Deactivating-clause-apart c =
    IfOk-weaker c.listed-in-Deactivating.result _ _
    (λ cands moved. filter_apart (suits c.args.search.now) c.args.book.now cands c.is_empty.ensures.ordered moved)
    (returns-in-Deactivating-clause-value c)

pub returns-then-is_empty-clause-value : goal.returns-then-is_empty-clause-value
returns-then-is_empty-clause-value c =
    let book = c.args.book.now in
    let test = suits c.args.search.now in
    let none : length book ≡ 0 = search rules in
    permuted (filter test book) _ (c.new.ensures ∙ sym (ap (filter test) (nothing book none)))

pub returns-then-is_empty-clause-apart : goal.returns-then-is_empty-clause-apart
returns-then-is_empty-clause-apart c =
    filter_apart (suits c.args.search.now) c.args.book.now _ c.is_empty.ensures.ordered (returns-then-is_empty-clause-value c)
