use Rattle.std.proofs.Common.{◌∙◌, sym, ap}
use Rattle.unit_messages.specs.Outlines.{asked}
use Rattle.unit_messages.proofs.outline.Outline.request.Goals as goal

pub returns-in-Overview : goal.returns-in-Overview
returns-in-Overview c = ap asked (sym c.in-Overview.is ∙ c.self.view_is)

pub returns-in-Day : goal.returns-in-Day
returns-in-Day c = ap asked (sym c.in-Day.is ∙ c.self.view_is)

pub returns-in-Events : goal.returns-in-Events
returns-in-Events c = ap asked (sym c.in-Events.is ∙ c.self.view_is)

pub returns-in-Technical : goal.returns-in-Technical
returns-in-Technical c = ap asked (sym c.in-Technical.is ∙ c.self.view_is)
