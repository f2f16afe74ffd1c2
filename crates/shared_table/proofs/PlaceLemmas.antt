-- Each step of a seat at a place keeps the place's rule.
use Rattle.std.proofs.Common.{◌≡◌, ℕ, zero, suc, List, [], ◌∷◌, ◌++◌, Option, Some, refl, sym, subst, ap, ◌∙◌, inl, inr, ◌⊎◌, append_assoc, append-nil, arith}
use mathlib.Core.Option.{some, none, some-injective, some-ne-none}
use lib.ListN.{get_elem?}
use Rattle.std.specs.Prelude.{slice_index, slice_set}
use Rattle.atomic_table.specs.Table.{Step, keeps, takes, gives, Allows, Splits, Joins, Final, Seen, opening}
use Rattle.atomic_table.proofs.Lists.{set_again}
use Rattle.net_base.specs.declared.settings.Settings.{Settings}
use Rattle.shared_table.specs.Turns.{BothWait, OneHolds, AreJoined, NoneHolds, Stands, AsksForTurn}
use Rattle.shared_table.specs.Views.{Begins}
use Rattle.shared_table.specs.declared.entry.Entry.{Entry}
use Rattle.shared_table.specs.declared.view.View.{View}
use Rattle.shared_table.specs.declared.view.View.TheVariants.{Whole, Waits, Holds, Both, Gone}

-- ---- what begins a history

pub begins_itself : (history : List Entry) → Begins history history
begins_itself history = record { more = []; are = sym (append-nil history) }

pub begins_later : (a b c : List Entry) → Begins a b → Begins b c → Begins a c
begins_later a b c one two = record {
  more = one.more ++ two.more;
  are = two.are ∙ (ap (λ l. l ++ two.more) one.are ∙ simp append_assoc);
}

-- ---- one view of two

at_one : (x v : View) (id : ℕ) → get_elem? (x ∷ []) id ≡ some v → (id ≡ 0) × (x ≡ v)
at_one x v zero e = (refl, some-injective x v e)
at_one x v (suc id) e = absurd (some-ne-none v (sym e))

at_two : (x y v : View) (id : ℕ) → get_elem? (x ∷ y ∷ []) id ≡ some v → ((id ≡ 0) × (x ≡ v)) ⊎ ((id ≡ 1) × (y ≡ v))
at_two x y v zero e = inl (refl, some-injective x v e)
at_two x y v (suc zero) e = inr (refl, some-injective y v e)
at_two x y v (suc (suc id)) e = absurd (some-ne-none v (sym e))

seen_at : (views new : List View) (v : View) (id : ℕ) → views ≡ new → get_elem? views id ≡ some v → get_elem? new id ≡ some v
seen_at views new v id same at = subst (λ vs. get_elem? vs id ≡ some v) same at

put_at : (views new : List View) (id place : ℕ) (v : View) → views ≡ new → id ≡ place → slice_set views id v ≡ slice_set new place v
put_at views new id place v same here = ap (λ vs. slice_set vs id v) same ∙ ap (λ n. slice_set new n v) here

waits_whole : (key : Settings) (a : List Entry) → Whole key ≡ Waits key a → ⊥
waits_whole key a e = cc

waits_holds : (key : Settings) (a b c : List Entry) → Holds key a b ≡ Waits key c → ⊥
waits_holds key a b c e = cc

waits_both : (key : Settings) (a b c : List Entry) → Both key a b ≡ Waits key c → ⊥
waits_both key a b c e = cc

waits_gone : (key : Settings) (a : List Entry) → Gone ≡ Waits key a → ⊥
waits_gone key a e = cc

holds_whole : (key : Settings) (a b : List Entry) → Whole key ≡ Holds key a b → ⊥
holds_whole key a b e = cc

holds_both : (key : Settings) (a b c d : List Entry) → Both key a b ≡ Holds key c d → ⊥
holds_both key a b c d e = cc

holds_gone : (key : Settings) (a b : List Entry) → Gone ≡ Holds key a b → ⊥
holds_gone key a b e = cc

both_whole : (key : Settings) (a b : List Entry) → Whole key ≡ Both key a b → ⊥
both_whole key a b e = cc

both_gone : (key : Settings) (a b : List Entry) → Gone ≡ Both key a b → ⊥
both_gone key a b e = cc

whole_gone : (key : Settings) → Gone ≡ Whole key → ⊥
whole_gone key e = cc

waits_same : (key : Settings) (a b : List Entry) → Waits key a ≡ Waits key b → a ≡ b
waits_same key a b e = cc

holds_same : (key : Settings) (a b c d : List Entry) → Holds key a b ≡ Holds key c d → (a ≡ c) × (b ≡ d)
holds_same key a b c d e = (cc, cc)

both_same : (key : Settings) (a b c d : List Entry) → Both key a b ≡ Both key c d → (a ≡ c) × (b ≡ d)
both_same key a b c d e = (cc, cc)

-- ---- whose views these can be

module _ (key : Settings) where
  -- where one waits and nobody holds, both wait
  one_of_both : (history : List Entry) (views : List View) (a : List Entry) (id : ℕ) → get_elem? views id ≡ some (Waits key a) → NoneHolds key history views → BothWait key history views
  one_of_both history views a id at (inl whole) = absurd (waits_whole key a (at_one (Whole key) (Waits key a) id (seen_at views _ _ id whole at)).1)
  one_of_both history views a id at (inr (inl both)) = both
  one_of_both history views a id at (inr (inr j)) = absurd (elim j.are [
    | inl e ↦ elim (at_two (Both key j.one j.other) Gone (Waits key a) id (seen_at views _ _ id e at)) [ inl t ↦ waits_both key _ _ a t.1 | inr t ↦ waits_gone key a t.1 ]
    | inr e ↦ elim (at_two Gone (Both key j.one j.other) (Waits key a) id (seen_at views _ _ id e at)) [ inl t ↦ waits_gone key a t.1 | inr t ↦ waits_both key _ _ a t.1 ]
  ])

  none_if_free : (history : List Entry) (views : List View) (a f : List Entry) (id : ℕ) → get_elem? views id ≡ some (Holds key a f) → NoneHolds key history views → ⊥
  none_if_free history views a f id at (inl whole) = holds_whole key a f (at_one (Whole key) (Holds key a f) id (seen_at views _ _ id whole at)).1
  none_if_free history views a f id at (inr (inl b)) = elim (at_two (Waits key b.one) (Waits key b.other) (Holds key a f) id (seen_at views _ _ id b.are at)) [
    | inl t ↦ waits_holds key a f b.one (sym t.1)
    | inr t ↦ waits_holds key a f b.other (sym t.1)
  ]
  none_if_free history views a f id at (inr (inr j)) = elim j.are [
    | inl e ↦ elim (at_two (Both key j.one j.other) Gone (Holds key a f) id (seen_at views _ _ id e at)) [ inl t ↦ holds_both key _ _ a f t.1 | inr t ↦ holds_gone key a f t.1 ]
    | inr e ↦ elim (at_two Gone (Both key j.one j.other) (Holds key a f) id (seen_at views _ _ id e at)) [ inl t ↦ holds_gone key a f t.1 | inr t ↦ holds_both key _ _ a f t.1 ]
  ]

  -- somebody who waits has the turn after
  turn_comes : (history : List Entry) (views : List View) (a : List Entry) (id : ℕ) → get_elem? views id ≡ some (Waits key a) → BothWait key history views →
      OneHolds key history (slice_set views id (Holds key a history)) × Begins a history
  turn_comes history views a id at b = elim (at_two (Waits key b.one) (Waits key b.other) (Waits key a) id (seen_at views _ _ id b.are at)) [
    | inl t ↦ let mine = subst (λ x. Begins x history) (waits_same key b.one a t.1) b.one_begins in (
      record {
        holder = a;
        waiter = b.other;
        are = inl (put_at views _ id 0 _ b.are t.0);
        holder_begins = mine;
        waiter_begins = b.other_begins;
      },
      mine,
    )
    | inr t ↦ let mine = subst (λ x. Begins x history) (waits_same key b.other a t.1) b.other_begins in (
      record {
        holder = a;
        waiter = b.one;
        are = inr (put_at views _ id 1 _ b.are t.0);
        holder_begins = mine;
        waiter_begins = b.one_begins;
      },
      mine,
    )
  ]

  -- who has the turn ends it, and the history goes on
  turn_ends : (history : List Entry) (views : List View) (a f seen new : List Entry) (id : ℕ) → get_elem? views id ≡ some (Holds key a f) → OneHolds key history views →
      Begins f new → (Begins a f → Begins seen new) → BothWait key new (slice_set views id (Waits key seen))
  turn_ends history views a f seen new id at h grown mine = elim h.are [
    | inl e ↦ elim (at_two (Holds key h.holder history) (Waits key h.waiter) (Holds key a f) id (seen_at views _ _ id e at)) [
      | inl t ↦ let same = holds_same key h.holder history a f t.1 in record {
        one = seen;
        other = h.waiter;
        are = put_at views _ id 0 _ e t.0;
        one_begins = mine (subst (λ x. Begins x f) same.0 (subst (λ x. Begins h.holder x) same.1 h.holder_begins));
        other_begins = begins_later h.waiter f new (subst (λ x. Begins h.waiter x) same.1 h.waiter_begins) grown;
      }
      | inr t ↦ absurd (waits_holds key a f h.waiter (sym t.1))
    ]
    | inr e ↦ elim (at_two (Waits key h.waiter) (Holds key h.holder history) (Holds key a f) id (seen_at views _ _ id e at)) [
      | inl t ↦ absurd (waits_holds key a f h.waiter (sym t.1))
      | inr t ↦ let same = holds_same key h.holder history a f t.1 in record {
        one = h.waiter;
        other = seen;
        are = put_at views _ id 1 _ e t.0;
        one_begins = begins_later h.waiter f new (subst (λ x. Begins h.waiter x) same.1 h.waiter_begins) grown;
        other_begins = mine (subst (λ x. Begins x f) same.0 (subst (λ x. Begins h.holder x) same.1 h.holder_begins));
      }
    ]
  ]

  -- two seats that wait become one
  two_are_one : (history : List Entry) (views : List View) (a b : List Entry) (id other : ℕ) → get_elem? views id ≡ some (Waits key a) → ¬ (other ≡ id) →
      get_elem? (slice_set views id (Both key a b)) other ≡ some (Waits key b) → BothWait key history views →
      AreJoined key history (slice_set (slice_set views id (Both key a b)) other Gone)
  two_are_one history views a b id other at apart at_other w = elim (at_two (Waits key w.one) (Waits key w.other) (Waits key a) id (seen_at views _ _ id w.are at)) [
    | inl t ↦
        let put = put_at views _ id 0 (Both key a b) w.are t.0 in
        elim (at_two (Both key a b) (Waits key w.other) (Waits key b) other (seen_at _ _ _ other put at_other)) [
          | inl u ↦ absurd (apart (u.0 ∙ sym t.0))
          | inr u ↦ record {
            one = a;
            other = b;
            are = inl (put_at _ _ other 1 Gone put u.0);
            one_begins = subst (λ x. Begins x history) (waits_same key w.one a t.1) w.one_begins;
            other_begins = subst (λ x. Begins x history) (waits_same key w.other b u.1) w.other_begins;
          }
        ]
    | inr t ↦
        let put = put_at views _ id 1 (Both key a b) w.are t.0 in
        elim (at_two (Waits key w.one) (Both key a b) (Waits key b) other (seen_at _ _ _ other put at_other)) [
          | inl u ↦ record {
            one = a;
            other = b;
            are = inr (put_at _ _ other 0 Gone put u.0);
            one_begins = subst (λ x. Begins x history) (waits_same key w.other a t.1) w.other_begins;
            other_begins = subst (λ x. Begins x history) (waits_same key w.one b u.1) w.one_begins;
          }
          | inr u ↦ absurd (apart (u.0 ∙ sym t.0))
        ]
  ]

  -- where somebody has the turn, no two seats wait
  one_waits : (history : List Entry) (views : List View) (a b c d : List Entry) (id other : ℕ) → get_elem? views id ≡ some (Waits key a) → ¬ (other ≡ id) →
      get_elem? (slice_set views id (Both key c d)) other ≡ some (Waits key b) → OneHolds key history views → ⊥
  one_waits history views a b c d id other at apart at_other h = elim h.are [
    | inl e ↦ elim (at_two (Holds key h.holder history) (Waits key h.waiter) (Waits key a) id (seen_at views _ _ id e at)) [
      | inl t ↦ waits_holds key _ _ a t.1
      | inr t ↦
          let put = put_at views _ id 1 (Both key c d) e t.0 in
          elim (at_two (Holds key h.holder history) (Both key c d) (Waits key b) other (seen_at _ _ _ other put at_other)) [
            | inl u ↦ waits_holds key _ _ b u.1
            | inr u ↦ apart (u.0 ∙ sym t.0)
          ]
    ]
    | inr e ↦ elim (at_two (Waits key h.waiter) (Holds key h.holder history) (Waits key a) id (seen_at views _ _ id e at)) [
      | inl t ↦
          let put = put_at views _ id 0 (Both key c d) e t.0 in
          elim (at_two (Both key c d) (Holds key h.holder history) (Waits key b) other (seen_at _ _ _ other put at_other)) [
            | inl u ↦ apart (u.0 ∙ sym t.0)
            | inr u ↦ waits_holds key _ _ b u.1
          ]
      | inr t ↦ waits_holds key _ _ a t.1
    ]
  ]

  -- a seat of both is there only where nobody has the turn
  both_begin : (history : List Entry) (views : List View) (a b : List Entry) (id : ℕ) → get_elem? views id ≡ some (Both key a b) → NoneHolds key history views →
      Begins a history × Begins b history
  both_begin history views a b id at (inl whole) = absurd (both_whole key a b (at_one (Whole key) (Both key a b) id (seen_at views _ _ id whole at)).1)
  both_begin history views a b id at (inr (inl w)) = absurd (elim (at_two (Waits key w.one) (Waits key w.other) (Both key a b) id (seen_at views _ _ id w.are at)) [
    | inl t ↦ waits_both key a b w.one (sym t.1)
    | inr t ↦ waits_both key a b w.other (sym t.1)
  ])
  both_begin history views a b id at (inr (inr j)) = elim j.are [
    | inl e ↦ elim (at_two (Both key j.one j.other) Gone (Both key a b) id (seen_at views _ _ id e at)) [ inl t ↦ same t.1 | inr t ↦ absurd (both_gone key a b t.1) ]
    | inr e ↦ elim (at_two Gone (Both key j.one j.other) (Both key a b) id (seen_at views _ _ id e at)) [ inl t ↦ absurd (both_gone key a b t.1) | inr t ↦ same t.1 ]
  ]
    where
      same : Both key j.one j.other ≡ Both key a b → Begins a history × Begins b history
      same e = let parts = both_same key j.one j.other a b e in
          (subst (λ x. Begins x history) parts.0 j.one_begins, subst (λ x. Begins x history) parts.1 j.other_begins)

  not_both : (history : List Entry) (views : List View) (a b : List Entry) (id : ℕ) → get_elem? views id ≡ some (Both key a b) → OneHolds key history views → ⊥
  not_both history views a b id at h = elim h.are [
    | inl e ↦ elim (at_two (Holds key h.holder history) (Waits key h.waiter) (Both key a b) id (seen_at views _ _ id e at)) [ inl t ↦ holds_both key a b _ _ (sym t.1) | inr t ↦ waits_both key a b _ (sym t.1) ]
    | inr e ↦ elim (at_two (Waits key h.waiter) (Holds key h.holder history) (Both key a b) id (seen_at views _ _ id e at)) [ inl t ↦ waits_both key a b _ (sym t.1) | inr t ↦ holds_both key a b _ _ (sym t.1) ]
  ]

  not_whole : (history : List Entry) (views : List View) (id : ℕ) → get_elem? views id ≡ some (Whole key) → OneHolds key history views → ⊥
  not_whole history views id at h = elim h.are [
    | inl e ↦ elim (at_two (Holds key h.holder history) (Waits key h.waiter) (Whole key) id (seen_at views _ _ id e at)) [ inl t ↦ holds_whole key _ _ (sym t.1) | inr t ↦ waits_whole key _ (sym t.1) ]
    | inr e ↦ elim (at_two (Waits key h.waiter) (Holds key h.holder history) (Whole key) id (seen_at views _ _ id e at)) [ inl t ↦ waits_whole key _ (sym t.1) | inr t ↦ holds_whole key _ _ (sym t.1) ]
  ]

  -- a seat that is the only one becomes two
  one_is_two : (history : List Entry) (views : List View) (id : ℕ) → get_elem? views id ≡ some (Whole key) → NoneHolds key history views →
      BothWait key history (slice_set views id (Waits key []) ++ Waits key [] ∷ [])
  one_is_two history views id at (inl whole) = record {
    one = [];
    other = [];
    are = ap (λ vs. vs ++ Waits key [] ∷ []) (put_at views _ id 0 (Waits key []) whole (at_one (Whole key) (Whole key) id (seen_at views _ _ id whole at)).0);
    one_begins = record { more = history; are = refl };
    other_begins = record { more = history; are = refl };
  }
  one_is_two history views id at (inr (inl w)) = absurd (elim (at_two (Waits key w.one) (Waits key w.other) (Whole key) id (seen_at views _ _ id w.are at)) [
    | inl t ↦ waits_whole key w.one (sym t.1)
    | inr t ↦ waits_whole key w.other (sym t.1)
  ])
  one_is_two history views id at (inr (inr j)) = absurd (elim j.are [
    | inl e ↦ elim (at_two (Both key j.one j.other) Gone (Whole key) id (seen_at views _ _ id e at)) [ inl t ↦ both_whole key _ _ (sym t.1) | inr t ↦ whole_gone key t.1 ]
    | inr e ↦ elim (at_two Gone (Both key j.one j.other) (Whole key) id (seen_at views _ _ id e at)) [ inl t ↦ whole_gone key t.1 | inr t ↦ both_whole key _ _ (sym t.1) ]
  ])

-- ---- the steps

module _ {T : Type 0} (history_of : T → List Entry) (settings_of : T → Settings) (key : Settings) where
  pub opens : (value : T) → settings_of value ≡ key → Stands history_of settings_of key (opening (0 ∷ []) (Some value ∷ []) (Whole key))
  opens value is = inl (record { value = value; word = refl; home = refl; settings = is; views = inl refl })

  pub splits : (id : ℕ) → Splits (Stands history_of settings_of key) id (Whole key) (Waits key []) (Waits key [])
  splits id s (inl h) at = inl (record {
    value = h.value;
    word = h.word;
    home = h.home;
    settings = h.settings;
    views = inr (inl (one_is_two key (history_of h.value) s.views id at h.views));
  })
  splits id s (inr o) at = absurd (not_whole key o.history s.views id at o.views)

  pub joins : (id other : ℕ) (a b : List Entry) → Joins (Stands history_of settings_of key) id (Waits key a) other (Waits key b) (Both key a b) Gone
  joins id other a b s (inl h) at apart at_other =
      let both = one_of_both key (history_of h.value) s.views a id at h.views in
      inl (record {
        value = h.value;
        word = h.word;
        home = h.home;
        settings = h.settings;
        views = inr (inr (two_are_one key (history_of h.value) s.views a b id other at apart at_other both));
      })
  joins id other a b s (inr o) at apart at_other = absurd (one_waits key o.history s.views a b a b id other at apart at_other o.views)

  pub asks : (step : Step (Option T)) (id : ℕ) (a : List Entry) → Allows (Stands history_of settings_of key) 1 id (Waits key a, []) 0 (λ _. 1) (AsksForTurn history_of settings_of step (Waits key a, []))
  asks step id a s (inl h) long at small =
      let came = turn_comes key (history_of h.value) s.views a id at (one_of_both key (history_of h.value) s.views a id at h.views) in
      let word : slice_index s.words 0 ≡ 0 = ap (λ ws. slice_index ws 0) h.word in (
        Holds key a (history_of h.value),
        takes 0 (Some h.value),
        ap (λ hs. get_elem? hs 0) h.home,
        inr (record {
          history = history_of h.value;
          word = ap (λ ws. slice_set ws 0 1) h.word;
          home = ap (λ hs. slice_set hs 0 none) h.home;
          views = came.0;
        }),
        (
          (λ _. record { value = h.value; key = key; seen = a; was = refl; now = refl; settings = h.settings; begins = came.1 }),
          λ held. absurd (held word),
        ),
      )
  asks step id a s (inr o) long at small =
      let word : slice_index s.words 0 ≡ 1 = ap (λ ws. slice_index ws 0) o.word in (
        Waits key a,
        keeps,
        tt,
        inr (record {
          history = o.history;
          word = ap (λ ws. slice_set ws 0 1) o.word;
          home = o.home;
          views = subst (OneHolds key o.history) (sym (set_again s.views id (Waits key a) at)) o.views;
        }),
        (
          (λ free. absurd (omega (arith, word, free))),
          λ _. refl,
        ),
      )

  module _ (id : ℕ) (value : T) (a f seen : List Entry) (is : settings_of value ≡ key) (grown : Begins f (history_of value)) (mine : Begins a f → Begins seen (history_of value)) where
    -- who gives the value back has seen this much then
    pub gives_back : Allows (Stands history_of settings_of key) 1 id (Holds key a f, (0, Some value) ∷ []) 0 (λ _. 0) (λ _ after. after ≡ (Waits key seen, []))
    gives_back s (inl h) long at small = absurd (none_if_free key (history_of h.value) s.views a f id at h.views)
    gives_back s (inr o) long at small = (
      Waits key seen,
      gives,
      tt,
      inl (record {
        value = value;
        word = ap (λ ws. slice_set ws 0 0) o.word;
        home = ap (λ hs. slice_set hs 0 (some (Some value))) o.home;
        settings = is;
        views = inr (inl (turn_ends key o.history s.views a f seen (history_of value) id at o.views grown mine));
      }),
      refl,
    )

  -- what lies in the place once both seats are one again
  pub record IsBrought (a b : List Entry) (found : Option T) : Type 0 where
    pub value : T
    pub is : found ≡ Some value
    pub settings : settings_of value ≡ key
    pub one : Begins a (history_of value)
    pub other : Begins b (history_of value)

  pub brings : (id : ℕ) (view : View) (a b : List Entry) (words : List ℕ) (slots : List (Option T)) (found : Option T) → view ≡ Both key a b →
      Final (Seen (Stands history_of settings_of key) id view) words slots → get_elem? slots 0 ≡ some found → IsBrought a b found
  brings id view a b words slots found is (s, ((inl h), at), same, long, values) there =
      let begin = both_begin key (history_of h.value) s.views a b id (at ∙ ap (λ (v : View). some v) is) h.views in record {
        value = h.value;
        is = some-injective found (Some h.value) (sym there ∙ values 0 (Some h.value) (ap (λ hs. get_elem? hs 0) h.home));
        settings = h.settings;
        one = begin.0;
        other = begin.1;
      }
  brings id view a b words slots found is (s, ((inr o), at), same, long, values) there = absurd (not_both key o.history s.views a b id (at ∙ ap (λ (v : View). some v) is) o.views)

-- the one view of a badge
pub only_view : (views : List View) (v w : View) → views ≡ v ∷ [] → views ≡ w ∷ [] → v ≡ w
only_view views v w e f = cc

pub some_same : {T : Type 0} (a b : T) → Some a ≡ Some b → a ≡ b
some_same a b e = cc
