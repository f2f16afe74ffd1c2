use Rattle.std.proofs.Common.{◌≡◌, length, sym, ap, subst, ◌∙◌}
use Rattle.shared_table.specs.Entries.{calls_of, count_of}
use Rattle.shared_table.specs.Views.{Begins}
use Rattle.shared_table.specs.declared.who.Who.TheVariants.{Out, In}
use Rattle.shared_table.proofs.SeenLemmas.{all_seen}
use Rattle.shared_table.proofs.table.SharedTable.gather.Goals as goal

pub returns-clause-ok : goal.returns-clause-ok
returns-clause-ok g c =
    let now = c.into_value-locked.result.shared.history in
    let same = c.into_parts-table.ensures.history ∙ ap (λ s. s.history) c.into_shared.ensures.same in
    let out_is = c.out.view_is ∙ c.into_seat-out.ensures.same in
    let out_kept : calls_of Out c.args.out.seen ≡ c.args.out.noted = subst (λ s. calls_of Out s.seen ≡ s.noted) c.into_seat-out.ensures.same c.into_seat-out.ensures.kept in
    let out_made : length c.args.out.noted ≡ count_of Out now = ap (λ s. length s.noted) (sym out_is) ∙ (sym c.out.invariant.1 ∙ c.into_shared.ensures.out) in
    let out_calls : calls_of Out now ≡ c.args.out.noted = all_seen Out c.args.out.seen now c.args.out.noted
    (subst (λ s. Begins s.seen now) out_is c.into_value-locked.ensures.one) out_kept out_made in
    let inn_is = c.inn.view_is ∙ c.into_seat-inn.ensures.same in
    let inn_kept : calls_of In c.args.inn.seen ≡ c.args.inn.noted = subst (λ s. calls_of In s.seen ≡ s.noted) c.into_seat-inn.ensures.same c.into_seat-inn.ensures.kept in
    let inn_made : length c.args.inn.noted ≡ count_of In now = ap (λ s. length s.noted) (sym inn_is) ∙ (sym c.inn.invariant.1 ∙ c.into_shared.ensures.inn) in
    let inn_calls : calls_of In now ≡ c.args.inn.noted = all_seen In c.args.inn.seen now c.args.inn.noted
    (subst (λ s. Begins s.seen now) inn_is c.into_value-locked.ensures.other) inn_kept inn_made in
    record {
      replayed = rw (c.into_parts-table.ensures.table, c.into_parts-table.ensures.history) c.into_parts-table.ensures.replayed;
      made_out = c.made-made_out.ensures ∙ (ap (λ s. length s.noted) c.into_seat-out.ensures.same ∙ (out_made ∙ sym (ap (count_of Out) same)));
      made_in = c.made-made_in.ensures ∙ (ap (λ s. length s.noted) c.into_seat-inn.ensures.same ∙ (inn_made ∙ sym (ap (count_of In) same)));
      noted = record { outs_are = ap (calls_of Out) same ∙ out_calls; ins_are = ap (calls_of In) same ∙ inn_calls };
    }
