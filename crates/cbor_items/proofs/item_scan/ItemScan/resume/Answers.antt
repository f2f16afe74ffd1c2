use Rattle.std.proofs.Common.{◌-◌, ℕ, List, length, drop, sym, subst, arith}
use Rattle.std.proofs.lemmas.List.{length-drop, take_all}
use Rattle.cbor_items.specs.Level.{skip_open}
use Rattle.cbor_items.specs.Resume.{Place, HasSeen}
use Rattle.cbor_items.specs.Steps.{levels_of, Goes}
use Rattle.cbor_items.proofs.Resumes.{seen_on, answer_is}
use Rattle.cbor_items.proofs.item_scan.ItemScan.resume.Goals as goal

pub returns-clause-scan : goal.returns-clause-scan
returns-clause-scan c =
    let inside = c.self.inside in
    let bytes = c.args.bytes.now in
    let place : Place = record { passed = inside.passed; levels = levels_of inside.levels } in
    let seen : HasSeen place bytes = subst (λ (p : Place). HasSeen p bytes) (sym c.self.view_is) c.requires in
    let levels = levels_of c.run-ended.new.levels in
    let rest = c.run-ended.result.0.now in
    let goes : Goes (skip_open place.levels) (drop inside.passed bytes) (skip_open levels) rest =
    subst (λ (x : List ℕ). Goes (skip_open place.levels) x (skip_open levels) rest)
    (take_all (length bytes - inside.passed) (drop inside.passed bytes) (omega (arith, length-drop inside.passed bytes))) c.run-ended.ensures.goes in
    answer_is place bytes seen levels rest goes c.run-ended.result.1 c.answer.result c.run-ended.ensures.ended c.answer.ensures

pub returns-clause-seen : goal.returns-clause-seen
returns-clause-seen c =
    let inside = c.self.inside in
    let bytes = c.args.bytes.now in
    let place : Place = record { passed = inside.passed; levels = levels_of inside.levels } in
    let seen : HasSeen place bytes = subst (λ (p : Place). HasSeen p bytes) (sym c.self.view_is) c.requires in
    let levels = levels_of c.run-ended.new.levels in
    let rest = c.run-ended.result.0.now in
    let goes : Goes (skip_open place.levels) (drop inside.passed bytes) (skip_open levels) rest =
    subst (λ (x : List ℕ). Goes (skip_open place.levels) x (skip_open levels) rest)
    (take_all (length bytes - inside.passed) (drop inside.passed bytes) (omega (arith, length-drop inside.passed bytes))) c.run-ended.ensures.goes in
    seen_on place bytes seen levels rest goes
