use Rattle.std.proofs.Common.{◌≡◌, List, Some, None, IfSome, IsSomeAnd, Option, true, is_some, length, set, refl, sym, ap, subst, ◌∙◌, arith}
use Rattle.std.proofs.lemmas.List.{length-set}
use Rattle.std.proofs.lemmas.Option.{get_or_from_slice_get}
use Rattle.least_tree.proofs.Over.{over-set}
use Rattle.timer_queue.specs.Keys.{key_in}
use Rattle.timer_queue.specs.Kept.{AreRising, AreIdle, AreOfWords, IsIdle}
use Rattle.timer_queue.specs.Rows.{row_at, place_at, with_at, with_row}
use Rattle.timer_queue.specs.declared.rows.Row.{Row}
use Rattle.timer_queue.proofs.Enrolled.{idle-with_row}
use Rattle.timer_queue.proofs.RowEdits.{StandsAt, stands_at, inside_rows, set-place_at, AreRising-with_row}
use Rattle.timer_queue.proofs.Words.{words-with_row}
use Rattle.timer_queue.proofs.kept.Kept.put_moment.Goals.{Start, After-replace}
use Rattle.timer_queue.proofs.kept.Kept.put_moment.Goals as goal

some_there : (P : Row → Type 0) (o : Option Row) → IsSomeAnd o P → is_some o ≡ true
some_there P None h = absurd h
some_there P (Some row) h = refl

stands : (c : Start) → StandsAt c.args.cid c.args.self.now.rows.items c.args.place
stands c =
    stands_at c.args.cid c.args.self.now.rows.items c.args.place c.requires.kept.rise
    (some_there (λ row. IsIdle (with_at c.args.kind c.args.at row)) (row_at c.args.cid c.args.self.now.rows.items) c.requires.idle) c.requires.place

-- the row, after the change
row_is : (c : After-replace) → (s : StandsAt c.args.cid c.args.self.now.rows.items c.args.place) →
    (let r : Row = record c.index_mut-row.result.now { moments = c.replace.new.self } in r) ≡ with_at c.args.kind c.args.at s.row
row_is c s =
    let its : c.index_mut-row.result.now ≡ s.row =
    c.index_mut-row.ensures.value ∙ get_or_from_slice_get c.args.self.now.rows.items c.args.place s.row c.index_mut-row.result.now s.here in
    ap (λ m. let r : Row = record c.index_mut-row.result.now { moments = m } in r) c.replace.ensures.moments ∙ ap (with_at c.args.kind c.args.at) its

pub index_mut-row-requires : goal.index_mut-row-requires
index_mut-row-requires c =
    let s = stands (goal.at.index_mut-row-requires c).Start in
    omega (arith, c.args.self.now.rows.ok, inside_rows s.row.cid c.args.self.now.rows.items c.args.place c.requires.kept.rise (ap is_some s.found) s.at)

pub put-requires : goal.put-requires
put-requires c =
    let s = stands (goal.at.put-requires c).Start in
    omega (arith, c.requires.kept.fit, inside_rows s.row.cid c.args.self.now.rows.items c.args.place c.requires.kept.rise (ap is_some s.found) s.at)

pub returns-clause-rows : goal.returns-clause-rows
returns-clause-rows c =
    let rows : List Row = c.args.self.now.rows.items in
    let s = stands (goal.at.returns-clause-rows c).Start in
    let new = row_is (goal.at.returns-clause-rows c).After-replace s in
    subst (λ o. IfSome o (λ row. set rows c.args.place (let r : Row = record c.index_mut-row.result.now { moments = c.replace.new.self } in r)
    ≡ with_row (with_at c.args.kind c.args.at row) rows)) (sym s.there)
    (ap (set rows c.args.place) new ∙ set-place_at (with_at c.args.kind c.args.at s.row) rows c.args.place c.requires.kept.rise (ap is_some s.found) s.at)

pub returns-clause-kept : goal.returns-clause-kept
returns-clause-kept c =
    let rows : List Row = c.args.self.now.rows.items in
    let kept = c.requires.kept in
    let s = stands (goal.at.returns-clause-kept c).Start in
    let row : Row = record c.index_mut-row.result.now { moments = c.replace.new.self } in
    let new : row ≡ with_at c.args.kind c.args.at s.row = row_is (goal.at.returns-clause-kept c).After-replace s in
    let own : row.cid ≡ s.row.cid = ap (λ (r : Row). r.cid) new in
    let there : is_some (row_at row.cid rows) ≡ true = ap (λ k. is_some (row_at k rows)) own ∙ ap is_some s.found in
    let at : c.args.place ≡ place_at row.cid rows = s.at ∙ ap (λ k. place_at k rows) (sym own) in
    let idle : IsIdle row = subst IsIdle (sym new) (subst (λ o. IsSomeAnd o (λ r. IsIdle (with_at c.args.kind c.args.at r))) s.there c.requires.idle) in
    let is : set rows c.args.place row ≡ with_row row rows = set-place_at row rows c.args.place kept.rise there at in
    let key_is = c.put.ensures ∙ ap (set c.args.self.now.keys c.args.place) c.key-key.ensures.value in
    let long = ap length key_is ∙ length-set c.args.self.now.keys c.args.place (key_in row) in
    record {
      rise = subst AreRising (sym is) (AreRising-with_row row rows kept.rise);
      idle = subst AreIdle (sym is) (idle-with_row row rows idle kept.idle);
      words = subst AreOfWords (sym is) (words-with_row row rows c.key-key.ensures.words kept.words);
      fit = omega (arith, length-set rows c.args.place row, long, kept.fit);
      memory = omega (arith, long, kept.memory);
      keys = over-set key_in rows c.args.self.now.keys c.put.new.self c.args.place row (inside_rows row.cid rows c.args.place kept.rise there at)
          kept.keys key_is;
    }
