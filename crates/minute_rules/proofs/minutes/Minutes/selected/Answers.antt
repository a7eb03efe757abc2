use Rattle.std.proofs.Common.{◌≡◌, ◌∙◌, ap, refl}
use Rattle.std.specs.Prelude.{Option, Some, None, unwrap_or}
use Rattle.activity_codec.specs.Activity.{activity_of}
use Rattle.activity_codec.specs.declared.values.Pick.{Pick}
use Rattle.minute_rules.specs.Kept.{Kept, selected}
use Rattle.minute_rules.proofs.Giving.{selected-driver, selected-codriver}
use Rattle.minute_rules.proofs.minutes.Minutes.selected.Goals as goal

or_selected : (now : Pick) (picked : Option Pick) → unwrap_or picked now ≡ selected now picked
or_selected now None = refl
or_selected now (Some pick) = refl

pub returns-in-Driver : goal.returns-in-Driver
returns-in-Driver c = λ span h. rw c.in-Driver.is (
    ap activity_of (c.unwrap_or.ensures ∙ or_selected c.self.inside.driver.current c.self.inside.driver.picked ∙ ap (λ (k : Kept). selected k.driver.current k.driver.picked) c.self.view_is)
    ∙ selected-driver span c.args.self.now h)

pub returns-in-CoDriver : goal.returns-in-CoDriver
returns-in-CoDriver c = λ span h. rw c.in-CoDriver.is (
    ap activity_of (c.unwrap_or-in-CoDriver.ensures ∙ or_selected c.self.inside.codriver.current c.self.inside.codriver.picked ∙ ap (λ (k : Kept). selected k.codriver.current k.codriver.picked) c.self.view_is)
    ∙ selected-codriver span c.args.self.now h)
