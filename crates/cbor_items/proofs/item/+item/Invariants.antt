use Rattle.std.proofs.Common.{◌≡◌, ◌+◌, ◌*◌, ◌-◌, length}
use Rattle.cbor_items.specs.Scan.{skip_row, skip_to_break, skip_item}
use Rattle.cbor_items.specs.Element.{element_of}
use Rattle.cbor_items.proofs.item.+item.Given as goal

abbrev pub decreases-skip_item : goal.decreases-skip_item
decreases-skip_item l = 5 * l.depth

abbrev pub decreases-skip_nested : goal.decreases-skip_nested
decreases-skip_nested l = 5 * l.inner + 4

abbrev pub decreases-skip_elements : goal.decreases-skip_elements
decreases-skip_elements l = 5 * l.inner + 3

abbrev pub decreases-skip_elements_to_break : goal.decreases-skip_elements_to_break
decreases-skip_elements_to_break l = 5 * l.inner + 3

abbrev pub decreases-skip_element : goal.decreases-skip_element
decreases-skip_element l = 5 * l.inner + 2

abbrev pub decreases-skip_held : goal.decreases-skip_held
decreases-skip_held l = 5 * l.depth + 1

abbrev pub invariant-skip_elements-loop : goal.invariant-skip_elements-loop
invariant-skip_elements-loop l =
    skip_row (element_of (skip_item l.inner) l.element) (l.count - l.counter) l.rest
    ≡ skip_row (element_of (skip_item l.inner) l.element) l.count l.bytes

abbrev pub invariant-skip_elements_to_break-loop : goal.invariant-skip_elements_to_break-loop
invariant-skip_elements_to_break-loop l =
    skip_to_break (element_of (skip_item l.inner) l.element) (length l.bytes - l.counter) l.rest
    ≡ skip_to_break (element_of (skip_item l.inner) l.element) (length l.bytes) l.bytes
