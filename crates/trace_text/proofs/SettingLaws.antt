-- The ranges of the settings' lines are those of the check.
use Rattle.std.proofs.Common.{◌≡◌, ℕ, ◌≤◌, Bool, true, false, ◌&&◌, cond, leb, List, [], ◌∷◌, Some, None, refl, arith, leb-true, le-leb}
use Rattle.std.specs.List.{list_all}
use Rattle.std.proofs.lemmas.Bool.{and_parts, and_from}
use Rattle.net_base.specs.Bounds.{within, first_failing, settings_tests, AreSound}
use Rattle.net_base.specs.declared.settings.Settings.{Settings}
use Rattle.net_base.specs.declared.settings.Field.{Field}
use Rattle.trace_text.specs.Settings.{AreInRange, setting_values, settings_under}

none_fails : (tests : List (Field × Bool)) → list_all (λ t. t.1) tests ≡ true → first_failing tests ≡ None
none_fails [] h = refl
none_fails (t ∷ tests) h = let p = and_parts t.1 (list_all (λ t. t.1) tests) h in rw p.0 (none_fails tests p.1)

-- one test more, where the rest is known
pass_more : (b : Bool) (field : Field) (tests : List (Field × Bool)) → cond b (first_failing tests) (Some field) ≡ None → (first_failing tests ≡ None → list_all (λ t. t.1) tests ≡ true) → (b && list_all (λ t. t.1) tests) ≡ true
pass_more true field tests h rest = rest h
pass_more false field tests h rest = absurd cc

pub all_pass : (tests : List (Field × Bool)) → first_failing tests ≡ None → list_all (λ t. t.1) tests ≡ true
all_pass [] h = refl
all_pass (t ∷ tests) h = pass_more t.1 t.0 tests h (all_pass tests)

pub in_range : (least most n : ℕ) → (least ≤ n) × (n ≤ most) → within least most n ≡ true
in_range least most n h = and_from (leb least n) (leb n most) (le-leb least n h.0) (le-leb n most h.1)

pub range_of : (least most n : ℕ) → within least most n ≡ true → (least ≤ n) × (n ≤ most)
range_of least most n h = let p = and_parts (leb least n) (leb n most) h in (leb-true least n p.0, leb-true n most p.1)

pub check_passes : (s : Settings) → 1 ≤ s.version → s.version ≤ 2 → AreInRange (settings_under s.hard) (setting_values s) → AreSound s
check_passes s low high h =
    none_fails (settings_tests s) (and_from _ _ (in_range 1 2 s.version (low, high)) (
    and_from _ _ (le-leb s.magic 4294967295 h.1) (
    and_from _ _ (le-leb s.initiator_only 1 h.2.1) (
    and_from _ _ (le-leb s.sharing 1 h.2.2.1) (
    and_from _ _ (in_range 1 10000 s.hard (h.2.2.2.0, h.2.2.2.1)) (
    and_from _ _ (le-leb s.soft s.hard h.2.2.2.2.1) (
    and_from _ _ (in_range 1 86400000 s.delay (h.2.2.2.2.2.0, h.2.2.2.2.2.1)) (
    and_from _ _ (in_range 1 86400000 s.idle (h.2.2.2.2.2.2.0, h.2.2.2.2.2.2.1)) (
    and_from _ _ (in_range 1 86400000 s.timewait (h.2.2.2.2.2.2.2.0, h.2.2.2.2.2.2.2.1)) (
    and_from _ _ (in_range 1 86400000 s.handshake (h.2.2.2.2.2.2.2.2.0, h.2.2.2.2.2.2.2.2.1)) (
    and_from _ _ (in_range 1 86400000 s.reply (h.2.2.2.2.2.2.2.2.2.0, h.2.2.2.2.2.2.2.2.2.1)) (
    and_from _ _ (in_range 1 86400000 s.backoff (h.2.2.2.2.2.2.2.2.2.2.0, h.2.2.2.2.2.2.2.2.2.2.1)) (
    and_from _ _ (in_range 1 86400000 s.sharegap (h.2.2.2.2.2.2.2.2.2.2.2.0, h.2.2.2.2.2.2.2.2.2.2.2.1)) (
    and_from _ _ (le-leb s.shares 8 h.2.2.2.2.2.2.2.2.2.2.2.2.1) (refl)))))))))))))))

pub check_within : (s : Settings) → AreSound s → AreInRange (settings_under s.hard) (setting_values s)
check_within s h =
    let version = and_parts (within 1 2 s.version) _ (all_pass (settings_tests s) h) in
    let magic = and_parts (leb s.magic 4294967295) _ version.1 in
    let initiator_only = and_parts (leb s.initiator_only 1) _ magic.1 in
    let sharing = and_parts (leb s.sharing 1) _ initiator_only.1 in
    let hard = and_parts (within 1 10000 s.hard) _ sharing.1 in
    let soft = and_parts (leb s.soft s.hard) _ hard.1 in
    let delay = and_parts (within 1 86400000 s.delay) _ soft.1 in
    let idle = and_parts (within 1 86400000 s.idle) _ delay.1 in
    let timewait = and_parts (within 1 86400000 s.timewait) _ idle.1 in
    let handshake = and_parts (within 1 86400000 s.handshake) _ timewait.1 in
    let reply = and_parts (within 1 86400000 s.reply) _ handshake.1 in
    let backoff = and_parts (within 1 86400000 s.backoff) _ reply.1 in
    let sharegap = and_parts (within 1 86400000 s.sharegap) _ backoff.1 in
    let shares = and_parts (leb s.shares 8) _ sharegap.1 in (
      omega arith,
      leb-true s.magic 4294967295 magic.0,
      (
        omega arith,
        leb-true s.initiator_only 1 initiator_only.0,
        (
          omega arith,
          leb-true s.sharing 1 sharing.0,
          (
            (range_of 1 10000 s.hard hard.0).0,
            (range_of 1 10000 s.hard hard.0).1,
            (
              omega arith,
              leb-true s.soft s.hard soft.0,
              (
                (range_of 1 86400000 s.delay delay.0).0,
                (range_of 1 86400000 s.delay delay.0).1,
                (
                  (range_of 1 86400000 s.idle idle.0).0,
                  (range_of 1 86400000 s.idle idle.0).1,
                  (
                    (range_of 1 86400000 s.timewait timewait.0).0,
                    (range_of 1 86400000 s.timewait timewait.0).1,
                    (
                      (range_of 1 86400000 s.handshake handshake.0).0,
                      (range_of 1 86400000 s.handshake handshake.0).1,
                      (
                        (range_of 1 86400000 s.reply reply.0).0,
                        (range_of 1 86400000 s.reply reply.0).1,
                        (
                          (range_of 1 86400000 s.backoff backoff.0).0,
                          (range_of 1 86400000 s.backoff backoff.0).1,
                          (
                            (range_of 1 86400000 s.sharegap sharegap.0).0,
                            (range_of 1 86400000 s.sharegap sharegap.0).1,
                            (omega arith, leb-true s.shares 8 shares.0, tt),
                          ),
                        ),
                      ),
                    ),
                  ),
                ),
              ),
            ),
          ),
        ),
      ),
    )
