use Rattle.std.proofs.Common.{◌+◌, ap, sym, ◌∙◌}
use Rattle.shared_table.specs.Entries.{count_of}
use Rattle.shared_table.specs.declared.who.Who.TheVariants.{Out, In}
use Rattle.shared_table.proofs.ReplayLemmas.{ins-push}
use Rattle.shared_table.proofs.locked.Locked.call_in.Goals as goal

pub invariant_of-self-2 : goal.invariant_of-self-2
invariant_of-self-2 g c =
    let counts = ins-push c.args.self.now.shared.history c.args.call c.in_ok-reply.reply in
    record {
      outs_counted = c.args.self.now.outs_counted ∙ (sym counts.0 ∙ sym (ap (count_of Out) c.in_ok-reply.ensures.history));
      ins_counted = c.add.ensures.total ∙ (ap (λ n. n + 1) (c.audit.ensures.total ∙ c.args.self.now.ins_counted) ∙ (sym counts.1 ∙ sym (ap (count_of In) c.in_ok-reply.ensures.history)));
    }
