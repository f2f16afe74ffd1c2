-- How the comparison of a history with what the seats kept goes on.
use Rattle.std.proofs.Common.{◌≡◌, ℕ, ◌+◌, ◌<◌, true, false, List, [], ◌∷◌, ◌++◌, length, take, drop, get_or, Some, refl, sym, subst, ap, ◌∙◌, inl, inr, add-one, drop-cons, arith}
use Rattle.std.specs.Prelude.{slice_get}
use Rattle.std.proofs.lemmas.Bool.{cases_Bool}
use Rattle.std.proofs.lemmas.List.{take_more, take-append-drop, length-append, append-nil}
use Rattle.std.proofs.lemmas.Option.{get_or_from_slice_get, slice_get_within}
use Rattle.std.proofs.Math.Seq.{take-length}
use Rattle.shared_table.specs.Entries.{calls_of, count_of, noted_in, same_who}
use Rattle.shared_table.specs.Tears.{AreNoted, IsTorn, Differs, kept_by, seen_of, seen_with}
use Rattle.shared_table.specs.declared.entry.Entry.{Entry}
use Rattle.shared_table.specs.declared.entry.Noted.{Noted}
use Rattle.shared_table.specs.declared.tear.Seen.{Seen}
use Rattle.shared_table.specs.declared.torn.Torn.{Torn}
use Rattle.shared_table.specs.declared.who.Who.{Who}
use Rattle.shared_table.specs.declared.who.Who.TheVariants.{Out, In}

pub calls_of-append : (who : Who) (es fs : List Entry) → calls_of who (es ++ fs) ≡ calls_of who es ++ calls_of who fs
calls_of-append who [] fs = refl
calls_of-append who (e ∷ es) fs = elim (cases_Bool (same_who who e.who)) [
  | inl here ↦ rw here (ap (λ l. noted_in e ∷ l) (calls_of-append who es fs))
  | inr other ↦ rw other (calls_of-append who es fs)
]

-- so far each caller's calls are those that its seat kept
pub record Agree (before : List Entry) (outs ins : List Noted) (seen : Seen) : Type 0 where
  pub outs_seen : seen.outs ≡ count_of Out before
  pub ins_seen : seen.ins ≡ count_of In before
  pub outs_agree : calls_of Out before ≡ take (count_of Out before) outs
  pub ins_agree : calls_of In before ≡ take (count_of In before) ins

pub agree-none : (outs ins : List Noted) → Agree [] outs ins (record { outs = 0; ins = 0 })
agree-none outs ins = record { outs_seen = refl; ins_seen = refl; outs_agree = grind arith; ins_agree = grind arith }

-- ---- one entry more

one_of : (who : Who) (e : Entry) → e.who ≡ who → calls_of who (e ∷ []) ≡ noted_in e ∷ []
one_of Out e is = rw is refl
one_of In e is = rw is refl

none_of : (who other : Who) (e : Entry) → e.who ≡ other → same_who who other ≡ false → calls_of who (e ∷ []) ≡ []
none_of who other e is apart = rw is (rw apart refl)

itself : (who : Who) → same_who who who ≡ true
itself Out = refl
itself In = refl

-- there is one more of its caller
pub fewer : (who : Who) (before : List Entry) (e : Entry) (after : List Entry) → e.who ≡ who → count_of who before < count_of who (before ++ e ∷ after)
fewer who before e after is =
    let here : same_who who e.who ≡ true = rw is (itself who) in
    let all = ap length (calls_of-append who before (e ∷ after)) in
    omega (arith, all, length-append (calls_of who before) (calls_of who (e ∷ after)), some here)
  where
    some : same_who who e.who ≡ true → 0 < length (calls_of who (e ∷ after))
    some here = rw here (omega arith)

-- a list that is a beginning of another, and one more that stands there
longer : (xs ys : List Noted) (x : Noted) → ys ≡ take (length ys) xs → slice_get xs (length ys) ≡ Some x → ys ++ x ∷ [] ≡ take (length (ys ++ x ∷ [])) xs
longer xs ys x start there =
    let within : length ys < length xs = slice_get_within xs (length ys) x there in
    let more : take (length ys + 1) xs ≡ take (length ys) xs ++ x ∷ [] =
    take_more xs (length ys) x within ∙ ap (λ y. take (length ys) xs ++ y ∷ []) (get_or_from_slice_get xs (length ys) x x there) in
    let long : length (ys ++ x ∷ []) ≡ length ys + 1 = omega (arith, length-append ys (x ∷ [])) in
    ap (λ l. l ++ x ∷ []) start ∙ (sym more ∙ ap (λ n. take n xs) (sym long))

begins : (who : Who) (before : List Entry) (e : Entry) (kept : List Noted) → e.who ≡ who → calls_of who before ≡ take (count_of who before) kept →
    slice_get kept (count_of who before) ≡ Some (noted_in e) → calls_of who (before ++ e ∷ []) ≡ take (count_of who (before ++ e ∷ [])) kept
begins who before e kept is start there =
    let now : calls_of who (before ++ e ∷ []) ≡ calls_of who before ++ noted_in e ∷ [] =
    calls_of-append who before (e ∷ []) ∙ ap (λ l. calls_of who before ++ l) (one_of who e is) in
    subst (λ l. l ≡ take (length l) kept) (sym now) (longer kept (calls_of who before) (noted_in e) start there)

pub counted : (who : Who) (before : List Entry) (e : Entry) → e.who ≡ who → count_of who (before ++ e ∷ []) ≡ count_of who before + 1
counted who before e is =
    let now = ap length (calls_of-append who before (e ∷ [])) in
    let one = ap length (one_of who e is) in
    omega (arith, now, one, length-append (calls_of who before) (calls_of who (e ∷ [])))

pub same_calls : (who other : Who) (before : List Entry) (e : Entry) → e.who ≡ other → same_who who other ≡ false → calls_of who (before ++ e ∷ []) ≡ calls_of who before
same_calls who other before e is apart =
    calls_of-append who before (e ∷ []) ∙ (ap (λ l. calls_of who before ++ l) (none_of who other e is apart) ∙ append-nil (calls_of who before))

still : (who : Who) (before now : List Entry) (kept : List Noted) → calls_of who now ≡ calls_of who before → calls_of who before ≡ take (count_of who before) kept →
    calls_of who now ≡ take (count_of who now) kept
still who before now kept same start = subst (λ l. l ≡ take (length l) kept) (sym same) start

more_of : (who : Who) (before : List Entry) (e : Entry) (outs ins : List Noted) (seen next : Seen) → e.who ≡ who → Agree before outs ins seen →
    slice_get (kept_by who outs ins) (seen_of who seen) ≡ Some (noted_in e) → next ≡ seen_with who seen → Agree (before ++ e ∷ []) outs ins next
more_of Out before e outs ins seen next is agree there step = record {
  outs_seen = ap (λ s. s.outs) step ∙ (ap (λ n. n + 1) agree.outs_seen ∙ sym (counted Out before e is));
  ins_seen = ap (λ s. s.ins) step ∙ (agree.ins_seen ∙ sym (ap length (same_calls In Out before e is refl)));
  outs_agree = begins Out before e outs is agree.outs_agree (subst (λ n. slice_get outs n ≡ Some (noted_in e)) agree.outs_seen there);
  ins_agree = still In before (before ++ e ∷ []) ins (same_calls In Out before e is refl) agree.ins_agree;
}
more_of In before e outs ins seen next is agree there step = record {
  outs_seen = ap (λ s. s.outs) step ∙ (agree.outs_seen ∙ sym (ap length (same_calls Out In before e is refl)));
  ins_seen = ap (λ s. s.ins) step ∙ (ap (λ n. n + 1) agree.ins_seen ∙ sym (counted In before e is));
  outs_agree = still Out before (before ++ e ∷ []) outs (same_calls Out In before e is refl) agree.outs_agree;
  ins_agree = begins In before e ins is agree.ins_agree (subst (λ n. slice_get ins n ≡ Some (noted_in e)) agree.ins_seen there);
}

seen_count : (who : Who) (before : List Entry) (outs ins : List Noted) (seen : Seen) → Agree before outs ins seen → seen_of who seen ≡ count_of who before
seen_count Out before outs ins seen agree = agree.outs_seen
seen_count In before outs ins seen agree = agree.ins_seen

kept_length : (who : Who) (history : List Entry) (outs ins : List Noted) → length outs ≡ count_of Out history → length ins ≡ count_of In history →
    length (kept_by who outs ins) ≡ count_of who history
kept_length Out history outs ins long short = long
kept_length In history outs ins long short = short

-- ---- at a place of the history

parted : (history : List Entry) (i : ℕ) (d : Entry) → i < length history → history ≡ take i history ++ get_or history i d ∷ drop (i + 1) history
parted history i d within = sym (take-append-drop i history) ∙ rw (add-one, drop-cons history i d) refl

pub seen_within : (history : List Entry) (i : ℕ) (d : Entry) (outs ins : List Noted) (seen : Seen) → i < length history → length outs ≡ count_of Out history →
    length ins ≡ count_of In history → Agree (take i history) outs ins seen →
    seen_of (get_or history i d).who seen < length (kept_by (get_or history i d).who outs ins)
seen_within history i d outs ins seen within long short agree =
    let e = get_or history i d in
    let all = ap (count_of e.who) (parted history i d within) in
    omega (
      arith,
      all,
      fewer e.who (take i history) e (drop (i + 1) history) refl,
      seen_count e.who (take i history) outs ins seen agree,
      kept_length e.who history outs ins long short,
    )

pub agree-more : (history : List Entry) (i : ℕ) (d : Entry) (outs ins : List Noted) (seen next : Seen) → i < length history → Agree (take i history) outs ins seen →
    slice_get (kept_by (get_or history i d).who outs ins) (seen_of (get_or history i d).who seen) ≡ Some (noted_in (get_or history i d)) →
    next ≡ seen_with (get_or history i d).who seen → Agree (take (i + 1) history) outs ins next
agree-more history i d outs ins seen next within agree there step =
    let e = get_or history i d in
    subst (λ before. Agree before outs ins next) (sym (take_more history i d within)) (more_of e.who (take i history) e outs ins seen next refl agree there step)

pub torn_here : (history : List Entry) (i : ℕ) (d : Entry) (outs ins : List Noted) (seen : Seen) (torn : Torn) → i < length history → Agree (take i history) outs ins seen →
    Differs (get_or history i d) (kept_by (get_or history i d).who outs ins) (seen_of (get_or history i d).who seen) torn → IsTorn history outs ins torn
torn_here history i d outs ins seen torn within agree differs =
    let e = get_or history i d in
    record {
      before = take i history;
      entry = e;
      after = drop (i + 1) history;
      parts = parted history i d within;
      outs_agree = agree.outs_agree;
      ins_agree = agree.ins_agree;
      differs = subst (λ n. Differs e (kept_by e.who outs ins) n torn) (seen_count e.who (take i history) outs ins seen agree) differs;
    }

whole : (who : Who) (history : List Entry) (kept : List Noted) → length kept ≡ count_of who history → calls_of who history ≡ take (count_of who history) kept →
    calls_of who history ≡ kept
whole who history kept long start = start ∙ (ap (λ n. take n kept) (sym long) ∙ take-length kept)

pub agree-all : (history : List Entry) (i : ℕ) (outs ins : List Noted) (seen : Seen) → i ≡ length history → length outs ≡ count_of Out history →
    length ins ≡ count_of In history → Agree (take i history) outs ins seen → AreNoted history outs ins
agree-all history i outs ins seen end long short agree =
    let all : take i history ≡ history = ap (λ n. take n history) end ∙ take-length history in
    let done : Agree history outs ins seen = subst (λ before. Agree before outs ins seen) all agree in
    record { outs_are = whole Out history outs long done.outs_agree; ins_are = whole In history ins short done.ins_agree }
