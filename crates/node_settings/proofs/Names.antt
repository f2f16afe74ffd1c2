-- The names of a table.
use Rattle.std.proofs.Common.{◌≡◌, Bool, List, [], ◌∷◌, map, String, Global, string_bytes, refl, ap}
use Rattle.std.specs.List.{list_all}
use Rattle.std.specs.Map.{keys_of}
use Rattle.toml.specs.declared.value.Value.{Value}
use Rattle.toml.specs.View.{members_view}
use Rattle.node_settings.specs.Config.{is_setting, has_known_names}

pub names_of-keys : (es : List (String Global × Value)) → has_known_names (members_view es) ≡ list_all (λ (key : String Global). is_setting (string_bytes key)) (keys_of es)
names_of-keys [] = refl
names_of-keys (e ∷ es) = rw (names_of-keys es) refl
