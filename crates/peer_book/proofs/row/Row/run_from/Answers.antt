use Rattle.std.proofs.Common.{◌≡◌, ◌+◌, List, drop, min, length, ap, ◌∙◌, arith}
use Rattle.net_base.specs.declared.address.Addr.{Addr}
use Rattle.peer_book.proofs.Parts.{run_in_front, run_behind, some_behind}
use Rattle.peer_book.proofs.row.Row.run_from.Goals as goal

pub returns-in-Some-clause-front : goal.returns-in-Some-clause-front
returns-in-Some-clause-front c =
    let xs : List Addr = c.args.self.now.chunks in
    let ys : List Addr = c.args.self.now.rest.items in
    let at : c.args.place ≡ length xs + c.in-Some.behind = omega arith in
    let mid : c.min.result ≡ min c.in-Some.behind (length ys) = omega arith in
    run_behind xs ys c.split_at.result.1.now c.args.place c.in-Some.behind at
    (c.split_at.ensures.back ∙ (ap (drop c.min.result) c.deref.ensures.value ∙ ap (λ n. drop n ys) mid))

pub returns-in-Some-clause-some : goal.returns-in-Some-clause-some
returns-in-Some-clause-some c =
    λ inside.
    let xs : List Addr = c.args.self.now.chunks in
    let ys : List Addr = c.args.self.now.rest.items in
    let at : c.args.place ≡ length xs + c.in-Some.behind = omega arith in
    let mid : c.min.result ≡ min c.in-Some.behind (length ys) = omega arith in
    some_behind xs ys c.split_at.result.1.now c.args.place c.in-Some.behind at
    (c.split_at.ensures.back ∙ (ap (drop c.min.result) c.deref.ensures.value ∙ ap (λ n. drop n ys) mid)) inside

pub returns-in-None-clause-front : goal.returns-in-None-clause-front
returns-in-None-clause-front c =
    let xs : List Addr = c.args.self.now.chunks in
    let ys : List Addr = c.args.self.now.rest.items in
    run_in_front xs ys c.run_from.result.now c.args.place (omega arith) c.run_from.ensures.front
