use Rattle.std.proofs.Common.{◌≡◌, List, length, set, subst, sym, ap, ◌∙◌, arith}
use Rattle.std.proofs.lemmas.List.{length-set}
use Rattle.timer_queue.specs.Keys.{key_in}
use Rattle.timer_queue.specs.Kept.{AreRising, AreIdle, AreOfWords}
use Rattle.timer_queue.specs.Rows.{with_row}
use Rattle.timer_queue.specs.declared.rows.Row.{Row}
use Rattle.timer_queue.proofs.Enrolled.{idle-with_row}
use Rattle.least_tree.proofs.Over.{over-set}
use Rattle.timer_queue.proofs.RowEdits.{inside_rows, set-place_at, AreRising-with_row}
use Rattle.timer_queue.proofs.Words.{words-with_row}
use Rattle.timer_queue.proofs.kept.Kept.put_row.Goals as goal

pub put-requires : goal.put-requires
put-requires c =
    let rows : List Row = c.args.self.now.rows.items in
    omega (arith, c.requires.kept.fit, inside_rows c.args.row.cid rows c.args.place c.requires.kept.rise c.requires.there c.requires.place)

pub index_mut-requires : goal.index_mut-requires
index_mut-requires c =
    let rows : List Row = c.args.self.now.rows.items in
    omega (arith, c.args.self.now.rows.ok, inside_rows c.args.row.cid rows c.args.place c.requires.kept.rise c.requires.there c.requires.place)

pub returns-clause-rows : goal.returns-clause-rows
returns-clause-rows c = set-place_at c.args.row c.args.self.now.rows.items c.args.place c.requires.kept.rise c.requires.there c.requires.place

pub returns-clause-kept : goal.returns-clause-kept
returns-clause-kept c =
    let rows : List Row = c.args.self.now.rows.items in
    let row : Row = c.args.row in
    let kept = c.requires.kept in
    let is : set rows c.args.place row ≡ with_row row rows = set-place_at row rows c.args.place kept.rise c.requires.there c.requires.place in
    let key_is = c.put.ensures ∙ ap (set c.args.self.now.keys c.args.place) c.key.ensures.value in
    let long = ap length key_is ∙ length-set c.args.self.now.keys c.args.place (key_in row) in
    record {
      rise = subst AreRising (sym is) (AreRising-with_row row rows kept.rise);
      idle = subst AreIdle (sym is) (idle-with_row row rows c.requires.idle kept.idle);
      words = subst AreOfWords (sym is) (words-with_row row rows c.key.ensures.words kept.words);
      fit = omega (arith, length-set rows c.args.place row, long, kept.fit);
      memory = omega (arith, long, kept.memory);
      keys = over-set key_in rows c.args.self.now.keys c.put.new.self c.args.place row (inside_rows row.cid rows c.args.place kept.rise c.requires.there c.requires.place)
          kept.keys key_is;
    }
