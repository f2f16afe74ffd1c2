-- What is proved elsewhere and cited here, passed on from one place. Declares nothing.
pub use Rattle.accept_gate.proofs.Choices.{first_to_go-law}
pub use Rattle.peer_book.proofs.Edits.{filter-within, count_by-put_in}
pub use Rattle.pick_policy.proofs.LeastLaws.{count_none}
pub use Rattle.pick_policy.proofs.PickFacts.{length-picked, length-ranked}
pub use Rattle.share_rounds.proofs.Homes.{told_by_group, told_by_roots}
pub use Rattle.share_rounds.proofs.Rules.{taken_are_new, each_of_front, told_are_few}
pub use Rattle.std.proofs.lemmas.Bool.{and_parts, and_from, both_ways, false_from_ne_true, false≢true, or_left, or_right, cond_both, or_from, and_right, lt-leb, or_parts, not-true}
pub use Rattle.std.proofs.lemmas.Grind.{flat_map-append}
pub use Rattle.std.proofs.lemmas.List.{length-map, append-nil, append_assoc, map-append, nil_from_length, length-take}
pub use Rattle.std.proofs.lemmas.List.Elements.{All-head, All-tail, All-weaker, All-nil, All-contains, All-contains_itself, filter-append, All-set, All-push, All-filter, All-cons, All-append, All-map, filter_passes, Contains-append_cases, Contains-append_right, All-from_recursion, recursion_from_All, All-take}
pub use Rattle.std.proofs.lemmas.List.Folds.{list_any-append, list_any_at, list_any_none, find_past, find-append, map_fixed, fold-map}
pub use Rattle.std.proofs.lemmas.List.Kept.{AllPairs-filter, AllPairs-cons}
pub use Rattle.std.proofs.lemmas.List.Quantifiers.{all_pairs_push, position-Some}
pub use Rattle.std.proofs.lemmas.List.Sums.{sum_by-append, sum_by-cons, sum_by_push, length-filter, get_or-le-sum_by, count_by-le-length, sum_by-set, sum_by-remove, fails_before_first}
pub use Rattle.std.proofs.lemmas.List.Filters.{sum_by-filter_both}
