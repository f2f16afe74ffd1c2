-- Views that tell the rules the same.
use Rattle.std.specs.Prelude.{◌≡◌}
use Rattle.govern_rules.specs.SortedLinks.{SaySame}
use Rattle.govern_rules.specs.declared.view.View.{View}

-- two views are the same but for their links, which say the same
pub record SeeSame (view other : View) : Type 0 where
  pub same : view ≡ record other { links = view.links }
  pub say_same : SaySame view.links other.links
