-- The members of cleaned groups are distinct.
use Rattle.std.proofs.Common.{List, [], ◌∷◌, ◌++◌, sym, subst, inl, inr, append_assoc}
use Rattle.std.specs.List.{IsDistinct}
use Rattle.std.proofs.lemmas.Bool.{cases_Bool}
use Rattle.std.proofs.lemmas.List.{append-nil}
use Rattle.std.proofs.lemmas.Map.Keys.{IsDistinct-push, IsDistinct-tail}
use Rattle.net_base.specs.Address.{same_address}
use Rattle.net_base.specs.declared.address.Addr.{Addr}
use Rattle.net_base.specs.declared.event.Group.{Group}
use Rattle.root_groups.specs.Cleaned.{is_listed, first_places, cleaned_after, cleaned, members_of}
use Rattle.root_groups.proofs.Listed.{same_address_equiv}

distinct_first_places : (before addrs : List Addr) → IsDistinct same_address before →
    IsDistinct same_address (before ++ first_places before addrs)
unfolding first_places
distinct_first_places before [] h = subst (IsDistinct same_address) (sym (append-nil before)) h
distinct_first_places before (addr ∷ addrs) h = elim (cases_Bool (is_listed addr before)) [
  | inl listed ↦ rw listed (distinct_first_places before addrs h)
  | inr new ↦ rw new (subst (IsDistinct same_address) (append_assoc before (addr ∷ []) (first_places (before ++ addr ∷ []) addrs))
      (distinct_first_places (before ++ addr ∷ []) addrs (IsDistinct-push same_address_equiv before addr h new)))
]

distinct_cleaned_after : (before : List Addr) (groups : List Group) → IsDistinct same_address before →
    IsDistinct same_address (before ++ members_of (cleaned_after before groups))
unfolding cleaned_after
distinct_cleaned_after before [] h = subst (IsDistinct same_address) (sym (append-nil before)) h
distinct_cleaned_after before (g ∷ groups) h =
    let kept : List Addr = first_places before g.members in
    subst (IsDistinct same_address) (append_assoc before kept (members_of (cleaned_after (before ++ kept) groups)))
    (distinct_cleaned_after (before ++ kept) groups (distinct_first_places before g.members h))

pub distinct_with_own : (own : Addr) (groups : List Group) → IsDistinct same_address (own ∷ members_of (cleaned own groups))
unfolding IsDistinct
distinct_with_own own groups = distinct_cleaned_after (own ∷ []) groups (tt, tt)

pub distinct_cleaned : (own : Addr) (groups : List Group) → IsDistinct same_address (members_of (cleaned own groups))
distinct_cleaned own groups = IsDistinct-tail same_address own (members_of (cleaned own groups)) (distinct_with_own own groups)
