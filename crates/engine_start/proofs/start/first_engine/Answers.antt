use Rattle.std.proofs.Common.{◌≡◌, Err, None, Some, ap, ◌∙◌}
use Rattle.net_base.specs.Bounds.{settings_fault}
use Rattle.engine_start.proofs.start.first_engine.Goals as goal

-- the settings are sound, so no field of them is refused
pub unreachable-requires : goal.unreachable-requires
unreachable-requires g c =
    let refused = c.in-Err-BadSetting.is ∙ ap Err c.in-Err-BadSetting.field-0-is in
    let fault : settings_fault c.args.settings ≡ Some c.in-Err-BadSetting.field-0-0 = (c.new.ensures.bad_setting c.in-Err-BadSetting.field-0-0).0 refused in
    let sound : settings_fault c.args.settings ≡ None = c.requires in
    cc
