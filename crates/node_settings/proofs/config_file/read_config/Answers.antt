use Rattle.std.proofs.Common.{◌≡◌, Result, Err, sym, ap, ◌∙◌, subst, ⊎_elim}
use Rattle.toml.specs.View.{table_view}
use Rattle.node_settings.specs.declared.config_refusal.ConfigRefusal.{ConfigRefusal}
use Rattle.node_settings.specs.declared.config_refusal.ConfigRefusal.TheVariants.{BadToml, OutOfMemory}
use Rattle.node_settings.specs.Config.{config_of, IsConfigOr}
use Rattle.node_settings.proofs.Documents.{config_of-table, config_of-none, same_config}
use Rattle.node_settings.proofs.config_file.read_config.Goals as goal

pub returns-in-Ok : goal.returns-in-Ok
returns-in-Ok c =
    let bytes = c.args.bytes.now in
    same_config (config_of bytes) c.read_document.result
    (config_of-table bytes (table_view c.in-Ok.table) c.in-Ok.ensures.ok.0 c.in-Ok.ensures.ok.1 ∙ sym c.read_document.ensures)

pub returns-in-Err : goal.returns-in-Err
returns-in-Err c =
    let bytes = c.args.bytes.now in
    let told : ConfigRefusal → Type 0 = λ refusal. IsConfigOr (config_of bytes) (Err refusal) in
    ⊎_elim
    (λ memory. subst told (sym memory.0) tt)
    (λ toml. subst told (sym toml.0) (config_of-none bytes (c.in-Err.ensures.refused toml.1)))
    c.refusal_of.ensures
