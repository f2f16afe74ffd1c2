use Rattle.std.proofs.Common.{◌≡◌, ◌+◌, ◌≤◌, ◌<◌, length, get_or, take, true, false, ap, sym, subst, ◌∙◌, arith}
use Rattle.std.specs.List.Sorted.{IsPartitionPoint, IsPartitionedBy}
use Rattle.std.proofs.lemmas.Fn.{always_returns_same}
use Rattle.chunked_list.specs.Chunks.{begins, joined, items_in}
use Rattle.chunked_list.proofs.Numbers.{length-starts, start_is, inside_bound}
use Rattle.chunked_list.proofs.Points.{parted_begins, parted_inside, none_begun, some_begun}
use Rattle.chunked_list.proofs.search.point_in.Goals as goal

pub returns-in_default-clause-partitioned : goal.returns-in_default-clause-partitioned
returns-in_default-clause-partitioned g c =
    λ p by parted.
    let begun = c.point_of-begun.ensures.partitioned (begins p) (always_returns_same _ _ _ (λ a r f' k. (k.met.0 p by, k.met.1)))
    (parted_begins p c.args.chunks.now c.requires.kept.filled parted) in
    none_begun p c.args.chunks.now c.requires.kept.filled parted c.point_of-begun.result c.point_of-begun.ensures.bound begun (omega arith)

pub overflow_add-result : goal.overflow_add-result
overflow_add-result g c =
    let cs = c.args.chunks.now in
    let last = c.in-Some.last in
    let d = c.index-chunks-last.result in
    let here : last < length cs = omega arith in
    let before : get_or c.args.firsts.now last 0 ≡ length (joined (take last cs)) = ap (λ l. get_or l last 0) c.requires.kept.numbers ∙ start_is cs last 0 here in
    omega (arith, before, c.partition_point.ensures.bound, ap length c.deref.ensures.value, ap (λ x. length (items_in x)) c.index-chunks-last.is, inside_bound cs last d here, c.requires.few)

pub returns-clause-bound : goal.returns-clause-bound
returns-clause-bound g c =
    let cs = c.args.chunks.now in
    let last = c.in-Some.last in
    let d = c.index-chunks-last.result in
    let here : last < length cs = omega arith in
    let before : get_or c.args.firsts.now last 0 ≡ length (joined (take last cs)) = ap (λ l. get_or l last 0) c.requires.kept.numbers ∙ start_is cs last 0 here in
    omega (arith, before, c.partition_point.ensures.bound, ap length c.deref.ensures.value, ap (λ x. length (items_in x)) c.index-chunks-last.is, inside_bound cs last d here)

pub returns-clause-partitioned : goal.returns-clause-partitioned
returns-clause-partitioned g c =
    λ p by parted.
    let cs = c.args.chunks.now in
    let last = c.in-Some.last in
    let d = c.index-chunks-last.result in
    let q = c.partition_point.result in
    let begun = c.point_of-begun.ensures.partitioned (begins p) (always_returns_same _ _ _ (λ a r f' k. (k.met.0 p by, k.met.1)))
    (parted_begins p cs c.requires.kept.filled parted) in
    let here : last < length cs = omega arith in
    let last_is : last + 1 ≡ c.point_of-begun.result = omega arith in
    let items : c.deref.result.now ≡ items_in (get_or cs last d) = c.deref.ensures.value in
    let inner : IsPartitionPoint (λ x. p x ≡ true) (λ x. p x ≡ false) (items_in (get_or cs last d)) q = subst (λ l. IsPartitionPoint (λ x. p x ≡ true) (λ x. p x ≡ false) l q) items
    (c.partition_point.ensures.partitioned p by (subst (IsPartitionedBy p) (sym items) (parted_inside p cs c.requires.kept.filled parted last d here))) in
    let within : q ≤ length (items_in (get_or cs last d)) = omega (arith, c.partition_point.ensures.bound, ap length items) in
    let before : get_or c.args.firsts.now last 0 ≡ length (joined (take last cs)) = ap (λ l. get_or l last 0) c.requires.kept.numbers ∙ start_is cs last 0 here in
    subst (λ n. IsPartitionPoint (λ x. p x ≡ true) (λ x. p x ≡ false) (joined cs) (n + q)) (sym before)
    (some_begun p cs c.requires.kept.filled parted c.point_of-begun.result c.point_of-begun.ensures.bound begun last q d last_is within inner)

pub bounds-firsts-last : goal.bounds-firsts-last
bounds-firsts-last g c = omega (arith, ap length c.requires.kept.numbers, length-starts 0 c.args.chunks.now)
