use Rattle.std.proofs.Common.{◌≡◌, ◌≤◌, ◌<◌, ◌+◌, ◌%◌, ◌^◌, [], ◌∷◌, ◌++◌, length, length-append, decimal, List, ℕ, ap, sym, ◌∙◌, arith}
use Rattle.std.proofs.Math.Nat.{div-one}
use Rattle.std.proofs.lemmas.Fmt.{length-decimal-le}
use Rattle.trace_text.proofs.Pushed.{ipv4_put}
use Rattle.trace_text.proofs.pushing.ipv4_text.Goals as goal

port_few : (from port : ℕ) (nothing text : List ℕ) → port < 2 ^ 16 → from ≡ port → nothing ≡ [] → text ≡ decimal from ++ nothing → length text ≤ 5
port_few from port nothing text fits same empty is =
    omega (arith, length-decimal-le 5 from (omega arith) (omega arith) (omega arith), ap length empty, ap length is ∙ length-append (decimal from) nothing)

pub put_number-requires : goal.put_number-requires
put_number-requires c = omega (arith, length-decimal-le 5 c.from.result (omega arith) (omega (arith, c.from.ensures)) (omega (arith, c.from.ensures)), ap length c.new-text.ensures)

pub put_octet-requires-clause-room : goal.put_octet-requires-clause-room
put_octet-requires-clause-room c =
    omega (arith, port_few c.from.result c.args.port c.new-text.result c.put_number.new.self (omega arith) c.from.ensures c.new-text.ensures c.put_number.ensures)

pub put_octet-requires-2-clause-room : goal.put_octet-requires-2-clause-room
put_octet-requires-2-clause-room c =
    omega (arith, port_few c.from.result c.args.port c.new-text.result c.put_number.new.self (omega arith) c.from.ensures c.new-text.ensures c.put_number.ensures, c.put_octet.ensures.length)

pub put_octet-requires-3-clause-room : goal.put_octet-requires-3-clause-room
put_octet-requires-3-clause-room c =
    omega (arith, port_few c.from.result c.args.port c.new-text.result c.put_number.new.self (omega arith) c.from.ensures c.new-text.ensures c.put_number.ensures, c.put_octet.ensures.length, c.put_octet-2.ensures.length)

pub put_octet-requires-4-clause-room : goal.put_octet-requires-4-clause-room
put_octet-requires-4-clause-room c =
    omega (arith, port_few c.from.result c.args.port c.new-text.result c.put_number.new.self (omega arith) c.from.ensures c.new-text.ensures c.put_number.ensures, c.put_octet.ensures.length, c.put_octet-2.ensures.length, c.put_octet-3.ensures.length)

pub returns : goal.returns
returns c =
    ipv4_put _ _ _ _ _ c.put_number.new.self c.put_octet.new.self c.put_octet-2.new.self c.put_octet-3.new.self c.put_octet-4.new.self
    (c.put_number.ensures ∙ ap (λ (xs : List ℕ). decimal c.from.result ++ xs) c.new-text.ensures ∙ ap (λ (n : ℕ). decimal n ++ []) c.from.ensures)
    (c.put_octet.ensures.text ∙ ap (λ (n : ℕ). decimal (n % 256) ++ 58 ∷ c.put_number.new.self) (sym (div-one c.args.ip)))
    c.put_octet-2.ensures.text c.put_octet-3.ensures.text c.put_octet-4.ensures.text
