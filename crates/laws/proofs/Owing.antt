-- What is owed on a connection, through each change of it.
use Rattle.std.proofs.Common.{ℕ, ◌+◌, ◌<◌, ◌≡◌, Bool, true, false, not, ◌==◌, nat_lt, List, [], ◌∷◌, ◌++◌, filter, find, is_some, All, AllPairs, refl, sym, ap, ◌∙◌, subst, arith, ltb-true}
use Rattle.laws.proofs.Words.{both_ways, false≢true, All-head, All-tail, All-cons, All-filter, All-append, All-weaker, filter_passes, AllPairs-cons, AllPairs-filter}
use Rattle.laws.specs.Words.{agreed_sharing, Machine, Entry, Owed, with_reply, without_reply, reply_on, owing, paid, is_owed_on}
use Rattle.laws.specs.Steady.{IsOwing}
use Rattle.laws.proofs.Finds.{find-none_passes}
use Rattle.laws.proofs.Lists.{AllPairs-head, AllPairs-tail, find_none}
use Rattle.laws.proofs.Cases.{by_bool, by_option}

-- ---- which replies are found

-- where each fails if each did before, whatever is found was found before
some-before : (q : Owed → Bool) (xs ys : List Owed) → (All (λ o. q o ≡ false) xs → All (λ o. q o ≡ false) ys) → is_some (find q ys) ≡ true → is_some (find q xs) ≡ true
some-before q xs ys fails h = search (arith, find-none_passes, find_none)

-- a reply of another kind than the one that comes to be owed was owed before it
pub with_reply-some : (q : Owed → Bool) (new : Owed) (owed : List Owed) → q new ≡ false →
    is_some (find q (with_reply new owed)) ≡ true → is_some (find q owed) ≡ true
with_reply-some q new owed other =
    let fails : Owed → Type 0 = λ o. q o ≡ false in
    let before : Owed → Bool = λ o. nat_lt o.protocol new.protocol in
    let behind : Owed → Bool = λ o. nat_lt new.protocol o.protocol in
    some-before q owed (with_reply new owed) (λ all. All-append fails (filter before owed) (new ∷ filter behind owed) (All-filter before fails owed all)
    (All-cons fails new (filter behind owed) other (All-filter behind fails owed all)))

-- and so was one that is owed once another was paid
pub paid-some : (q : Owed → Bool) (protocol : ℕ) (owed : List Owed) → is_some (find q (without_reply protocol owed)) ≡ true → is_some (find q owed) ≡ true
paid-some q protocol owed = some-before q owed (without_reply protocol owed) (All-filter (λ o. not (o.protocol == protocol)) (λ o. q o ≡ false) owed)

-- ---- where nothing is owed

pub nothing-owing : (e : Entry) → e.owed ≡ [] → IsOwing e
nothing-owing e none = search (arith, false≢true)

pub record OwesNothing (e : Entry) : Type 0 where
  pub on_2 : is_some (reply_on 2 e) ≡ false
  pub on_8 : is_some (reply_on 8 e) ≡ false
  pub on_10 : is_some (reply_on 10 e) ≡ false

-- where no reply is found, none is owed
pub nothing_owed : (e : Entry) → IsOwing e → OwesNothing e → e.owed ≡ []
nothing_owed e h none = by_list e.owed refl
  where
    by_list : (owed : List Owed) → e.owed ≡ owed → e.owed ≡ []
    by_list [] is = is
    by_list (o ∷ owed) is =
        let first : is_owed_on o.protocol ≡ true = All-head (λ q. is_owed_on q.protocol ≡ true) o owed
        (subst (All (λ q. is_owed_on q.protocol ≡ true)) is h.protocols) in
        let on : (n : ℕ) → is_some (reply_on n e) ≡ false → is_some (find (λ q. q.protocol == n) (o ∷ owed)) ≡ false =
        λ n free. ap (λ list. is_some (find (λ q. q.protocol == n) list)) (sym is) ∙ free in
        absurd (grind (arith, first, on 2 none.on_2, on 8 none.on_8, on 10 none.on_10))

-- ---- changes

-- what is owed stays, and so does what it hangs on
pub alike-owing : (old new : Entry) → new.owed ≡ old.owed → new.facts.local ≡ old.facts.local → new.facts.agreed ≡ old.facts.agreed →
    IsOwing old → IsOwing new
alike-owing old new owed local agreed h = record {
  protocols = subst (All (λ o. is_owed_on o.protocol ≡ true)) (sym owed) h.protocols;
  rises = subst (AllPairs (λ o q. o.protocol < q.protocol)) (sym owed) h.rises;
  used = λ unused. owed ∙ h.used (sym local ∙ unused);
  shares = λ asked. ap agreed_sharing agreed ∙ h.shares (ap (λ list. is_some (find (λ o. o.protocol == 10) list)) (sym owed) ∙ asked);
}

-- a reply is paid
pub paid-owing : (protocol : ℕ) (e : Entry) → IsOwing e → IsOwing (paid protocol e)
paid-owing protocol e h =
    let keeps : Owed → Bool = λ o. not (o.protocol == protocol) in
    record {
      protocols = All-filter keeps (λ o. is_owed_on o.protocol ≡ true) e.owed h.protocols;
      rises = AllPairs-filter (λ o q. o.protocol < q.protocol) keeps e.owed h.rises;
      used = λ unused. ap (λ owed. filter keeps owed) (h.used unused);
      shares = λ asked. h.shares (paid-some (λ o. o.protocol == 10) protocol e.owed asked);
    }

-- one list, and then another that is above it
AllPairs-append : {X : Type 0} (R : X → X → Type 0) (xs ys : List X) → AllPairs R xs → AllPairs R ys → All (λ x. All (R x) ys) xs → AllPairs R (xs ++ ys)
AllPairs-append R [] ys h k above = k
AllPairs-append R (x ∷ xs) ys h k above =
    AllPairs-cons R x (xs ++ ys) (All-append (R x) xs ys (AllPairs-head R x xs h) (All-head (λ z. All (R z) ys) x xs above))
    (AllPairs-append R xs ys (AllPairs-tail R x xs h) k (All-tail (λ z. All (R z) ys) x xs above))

with_reply-rises : (new : Owed) (owed : List Owed) → AllPairs (λ o q. o.protocol < q.protocol) owed → AllPairs (λ o q. o.protocol < q.protocol) (with_reply new owed)
with_reply-rises new owed h =
    let rises : Owed → Owed → Type 0 = λ o q. o.protocol < q.protocol in
    let below : Owed → Bool = λ o. nat_lt o.protocol new.protocol in
    let above : Owed → Bool = λ o. nat_lt new.protocol o.protocol in
    let higher : All (rises new) (filter above owed) =
    All-weaker (λ o. above o ≡ true) (rises new) (λ o is. ltb-true new.protocol o.protocol is) (filter above owed) (filter_passes above owed) in
    AllPairs-append rises (filter below owed) (new ∷ filter above owed) (AllPairs-filter rises below owed h)
    (AllPairs-cons rises new (filter above owed) higher (AllPairs-filter rises above owed h))
    (All-weaker (λ o. below o ≡ true) (λ o. All (rises o) (new ∷ filter above owed))
    (λ o is.
    let lower : o.protocol < new.protocol = ltb-true o.protocol new.protocol is in
    All-cons (rises o) new (filter above owed) lower
    (All-weaker (rises new) (rises o) (λ q next. omega (arith, lower, next)) (filter above owed) higher))
    (filter below owed) (filter_passes below owed))

-- A reply comes to be owed, on a connection in use.
pub owing-owing : (protocol asked : ℕ) (m : Machine) (e : Entry) → is_owed_on protocol ≡ true → e.facts.local ≡ true →
    ((protocol == 10) ≡ true → agreed_sharing e.facts.agreed ≡ true) → IsOwing e → IsOwing (owing protocol asked m e)
owing-owing protocol asked m e known local sharing h =
    let new : Owed = record { protocol = protocol; until = m.now + m.settings.reply; asked = asked } in
    let below : Owed → Bool = λ o. nat_lt o.protocol protocol in
    let above : Owed → Bool = λ o. nat_lt protocol o.protocol in
    let fits : Owed → Type 0 = λ o. is_owed_on o.protocol ≡ true in
    record {
      protocols = All-append fits (filter below e.owed) (new ∷ filter above e.owed) (All-filter below fits e.owed h.protocols)
          (All-cons fits new (filter above e.owed) known (All-filter above fits e.owed h.protocols));
      rises = with_reply-rises new e.owed h.rises;
      used = λ unused. absurd (both_ways e.facts.local unused local);
      shares = λ found. by_bool (protocol == 10) (λ b. agreed_sharing e.facts.agreed ≡ true) sharing
          (λ other. h.shares (with_reply-some (λ o. o.protocol == 10) new e.owed other found));
    }
