use Rattle.std.proofs.Common.{◌≡◌, ◌≤◌, List, length, ap, sym, subst, ◌∙◌, arith, length-append}
use Rattle.std.specs.List.{prefix_len}
use Rattle.std.proofs.lemmas.List.Sums.{prefix_len-le-length}
use Rattle.net_base.specs.declared.address.Addr.{Addr}
use Rattle.peer_book.specs.Order.{IsRising}
use Rattle.peer_book.proofs.Parts.{rises_front, rises_back, place_in_front, place_behind}
use Rattle.peer_book.proofs.Rising.{is_under}
use Rattle.peer_book.proofs.row.Row.place.Goals as goal

pub place_in-place-requires : goal.place_in-place-requires
place_in-place-requires c = rises_front (λ a. a) c.args.self.now.chunks c.args.self.now.rest.items c.requires.rising

pub returns-then-place-len : goal.returns-then-place-len
returns-then-place-len c =
    let xs : List Addr = c.args.self.now.chunks in
    let p = is_under (λ a. a) c.args.addr in
    c.place_in-place.ensures ∙ sym (place_in_front p xs c.args.self.now.rest.items (omega (arith, c.place_in-place.ensures)))

pub place_of-requires : goal.place_of-requires
place_of-requires c =
    subst (IsRising (λ a. a)) (sym c.deref.ensures.value) (rises_back (λ a. a) c.args.self.now.chunks c.args.self.now.rest.items c.requires.rising)

pub overflow_add-result : goal.overflow_add-result
overflow_add-result c =
    let xs : List Addr = c.args.self.now.chunks in
    let ys : List Addr = c.args.self.now.rest.items in
    let p = is_under (λ a. a) c.args.addr in
    omega (
      arith,
      c.place_in-place.ensures,
      c.place_of.ensures,
      prefix_len-le-length p xs,
      prefix_len-le-length p c.deref.result.now,
      ap length c.deref.ensures.value,
      length-append xs ys,
      c.requires.room,
      c.args.self.now.rest.small,
    )

pub returns : goal.returns
returns c =
    let xs : List Addr = c.args.self.now.chunks in
    let ys : List Addr = c.args.self.now.rest.items in
    let p = is_under (λ a. a) c.args.addr in
    let front = c.place_in-place.ensures in
    let behind : c.place_of.result ≡ prefix_len p ys = c.place_of.ensures ∙ ap (prefix_len p) c.deref.ensures.value in
    let all : length xs ≤ prefix_len p xs = omega (arith, front) in
    omega (arith, front, behind, place_behind p xs ys all)
