use Rattle.std.proofs.Common.{◌≡◌, ◌≤◌, ℕ, Option, Some, IfSome, sym, subst}
use Rattle.std.specs.Prelude.{IfOk}
use Rattle.std.proofs.lemmas.Result.{IfOk-weaker}
use Rattle.unit_model.specs.declared.layout.TheConstants.{DAY_WORD_LIMIT, HIGHEST_ODOMETER}
use Rattle.unit_model.specs.Decoding.{Decodes}
use Rattle.unit_memory.proofs.Told.{told_all, carried}
use Rattle.unit_minutes.proofs.IfAny.{read_same}
use Rattle.unit_minutes.specs.Reading.{AreRight, IsOfDate, IsSlotPlace}
use Rattle.unit_minutes.specs.declared.journal.reading.UnitDay.{UnitDay}
use Rattle.link_model.specs.declared.request.Request.TheVariants.{Day as AskDay}
use Rattle.unit_messages.specs.Outlines.{Outlines, IsOutlined, asked}
use Rattle.unit_messages.proofs.Calls.{any_then}
use Rattle.unit_messages.proofs.Joints.{at_told}
use Rattle.unit_messages.proofs.Outlining.{none_sent}
use Rattle.unit_messages.proofs.outline.finding.dated_outline.Goals as goal

pub returns-in-None-clause-outlined : goal.returns-in-None-clause-outlined
returns-in-None-clause-outlined g c =
    told_all (g.M.Medium.state c.args.unit.now).image _ (λ x told.
    none_sent x c.args.date (at_told _ x told c.requires.decodes) (subst (λ (f : Option UnitDay). IsOfDate x c.args.date f) c.in-None.is (at_told _ x told c.in_ok-found.ensures.found (at_told _ x told c.requires.right))))

pub returns-in-Some-clause-outlined : goal.returns-in-Some-clause-outlined
returns-in-Some-clause-outlined g c =
    let day = c.in-Some.day in
    let before = (g.M.Medium.state c.args.unit.now).image in
    let after = (g.M.Medium.state c.find.new.unit).image in
    let date_is : day.date.0 ≡ c.args.date = subst (λ (f : Option UnitDay). IfSome f (λ d. d.date.0 ≡ c.args.date)) c.in-Some.is c.in_ok-found.ensures.date in
    IfOk-weaker c.found_outline.result (λ found. IfSome after (λ x. IsOutlined x (AskDay day.date.0) found)) (λ found. IfSome before (λ x. IsOutlined x (AskDay c.args.date) found))
    (λ found it. carried (λ x. IsOutlined x (AskDay c.args.date) found) (read_same c.in_ok-found.ensures.reads) (subst (λ (n : ℕ). IfSome after (λ x. IsOutlined x (AskDay n) found)) date_is it))
    c.found_outline.ensures.outlined

pub returns-in-Some-clause-request : goal.returns-in-Some-clause-request
returns-in-Some-clause-request g c =
    let day = c.in-Some.day in
    let date_is : day.date.0 ≡ c.args.date = subst (λ (f : Option UnitDay). IfSome f (λ d. d.date.0 ≡ c.args.date)) c.in-Some.is c.in_ok-found.ensures.date in
    subst (λ (n : ℕ). IfOk c.found_outline.result (λ found. IfSome found (λ o. asked o ≡ AskDay n))) date_is c.found_outline.ensures.request

pub returns-in-Some-clause-reads : goal.returns-in-Some-clause-reads
returns-in-Some-clause-reads g c = any_then c.in_ok-found.ensures.reads c.found_outline.ensures.reads

pub found_outline-requires-clause-right : goal.found_outline-requires-clause-right
found_outline-requires-clause-right g c = carried (AreRight c.args.journal.now) (sym (read_same c.in_ok-found.ensures.reads)) c.requires.right

pub found_outline-requires-clause-decodes : goal.found_outline-requires-clause-decodes
found_outline-requires-clause-decodes g c = carried Decodes (sym (read_same c.in_ok-found.ensures.reads)) c.requires.decodes

pub found_outline-requires-clause-known : goal.found_outline-requires-clause-known
found_outline-requires-clause-known g c = carried (λ x. IfSome c.args.known.now (λ o. Outlines o x)) (sym (read_same c.in_ok-found.ensures.reads)) c.requires.known

pub found_outline-requires-clause-found : goal.found_outline-requires-clause-found
found_outline-requires-clause-found g c =
    let day = c.in-Some.day in
    let before = (g.M.Medium.state c.args.unit.now).image in
    let date_is : day.date.0 ≡ c.args.date = subst (λ (f : Option UnitDay). IfSome f (λ d. d.date.0 ≡ c.args.date)) c.in-Some.is c.in_ok-found.ensures.date in
    let here : IfSome before (λ x. IsOfDate x day.date.0 (Some day)) =
    told_all before (λ x. IsOfDate x day.date.0 (Some day)) (λ x told.
    subst (λ (n : ℕ). IsOfDate x n (Some day)) (sym date_is)
    (subst (λ (f : Option UnitDay). IsOfDate x c.args.date f) c.in-Some.is (at_told _ x told c.in_ok-found.ensures.found (at_told _ x told c.requires.right)))) in
    carried (λ x. IsOfDate x day.date.0 (Some day)) (sym (read_same c.in_ok-found.ensures.reads)) here

pub found_outline-requires-clause-place : goal.found_outline-requires-clause-place
found_outline-requires-clause-place g c = subst (λ (f : Option UnitDay). IfSome f (λ d. IsSlotPlace d.place)) c.in-Some.is c.in_ok-found.ensures.place

pub found_outline-requires-clause-words : goal.found_outline-requires-clause-words
found_outline-requires-clause-words g c = subst (λ (f : Option UnitDay). IfSome f (λ d. d.words ≤ DAY_WORD_LIMIT)) c.in-Some.is c.in_ok-found.ensures.words

pub found_outline-requires-clause-odometer : goal.found_outline-requires-clause-odometer
found_outline-requires-clause-odometer g c = subst (λ (f : Option UnitDay). IfSome f (λ d. d.odometer.0 ≤ HIGHEST_ODOMETER)) c.in-Some.is c.in_ok-found.ensures.odometer
