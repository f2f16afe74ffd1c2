use Rattle.std.proofs.Common.{String, Global, string_bytes, sym, ◌∙◌, rules, tests}
use Rattle.std.specs.Map.{keys_of}
use Rattle.std.proofs.lemmas.Iterator.Consumers.{YieldsList-from_rest}
use Rattle.std.proofs.lemmas.Iterator.Search.{all_from_yields_List}
use Rattle.node_settings.specs.Config.{is_setting}
use Rattle.node_settings.proofs.Names.{names_of-keys}
use Rattle.node_settings.proofs.config_file.has_known_names.Goals as goal

pub returns : goal.returns
returns c =
    let entries = c.args.table.now.entries in
    all_from_yields_List (λ (key : String Global). is_setting (string_bytes key)) _ _ _ c.all.ensures.ran (YieldsList-from_rest (keys_of entries) c.keys.ensures.rest) (λ x b q g. search (rules, tests))
    ∙ sym (names_of-keys entries)
