-- What is made of a card that enters, deed by deed: a note beside its days, a read, and a session that is opened.
use Rattle.std.proofs.Common.{◌≡◌, ◌∙◌, ⊎_elim, ℕ, Bool, true, false, List, [], Option, Some, None}
use Rattle.std.specs.Prelude.{Result, Ok, Err, IfErr}
use Rattle.trace_model.specs.declared.Card.{Card}
use Rattle.tach_media.specs.Medium.{State, IsCoherent, LeavesOnly, Unchanged, Reads}
use Rattle.tacho_types.specs.declared.texts.Registration.{Registration}
use Rattle.card_layout.specs.declared.files.Application.{Application}
use Rattle.card_layout.specs.Application.{IsApplication}
use Rattle.card_validity.specs.card_image.Judging.{IsValid}
use Rattle.card_validity.specs.card_image.Own.{own_sizes}
use Rattle.card_session.specs.Books.{mark_of}
use Rattle.card_session.specs.Inserting.{lacked}
use Rattle.device_calls.specs.CardNotes.{IsNote}
use Rattle.device_calls.specs.declared.entering.Entered.{Entered}
use Rattle.device_calls.specs.declared.entering.NotEntered.{NotEntered}
use Rattle.device_calls.specs.declared.entering.NotEntered.TheVariants.{UnitFailed, CardFailed, NotValid, TimeOverlap}
use Rattle.device_calls.specs.Entering.{IsRefused}
use Rattle.run_minutes.specs.run_promise.Found.{CardFound, Found, found_of}
use Rattle.run_minutes.proofs.run_devices.Woken.{MayHaveWritten}
use Rattle.run_minutes.proofs.run_devices.NotedCard.{note-book}
use Rattle.run_minutes.specs.CardDeeds.{made_by, is_open_in, opens, begun_use, DoesOn, OpensOn}
use Rattle.run_minutes.proofs.run_devices.CardUse.{note-use}
use Rattle.run_minutes.proofs.CardDeeds.{does-none}
use Rattle.run_insertion.specs.declared.lines.Entering.{Entering}
use Rattle.run_insertion.specs.Entering.{Ending, Unfit, Ahead, Fell, Unasked, Unnoted, Seated, Lost, taken_as}
use Rattle.run_insertion.specs.Told.{IsNotedBeside, OpensSo}

-- a read
pub does-read : (app : Application) (X Y : State) → LeavesOnly X Y Unchanged → DoesOn app [] X Y
does-read app X Y run b held shows y left = ⊎_elim (λ was. shows y was) (λ never. absurd never.2) (run.now y left)

-- a note beside the days: of a valid card, at each moment
pub does-note : (app : Application) → IsApplication app → (X Y : State) → IsCoherent X → ((x : List ℕ) → X.image ≡ Some x → IsValid app x) → LeavesOnly X Y (IsNote app) → DoesOn app [] X Y
does-note app sound X Y whole valid run b held shows y left = ⊎_elim
    (λ was. shows y was)
    (λ noted.
    let here = shows noted.0 (whole.is_left noted.0 noted.1) in
    (note-book app sound noted.0 (valid noted.0 noted.1) y noted.2 ∙ here.0, note-use app noted.0 y noted.2 ∙ here.1))
    (run.now y left)

-- nothing is noted
pub beside-none : (f : Found) (c : Card) (X : State) → IsNotedBeside f c X X
beside-none f c X = ((λ timed. timed), does-none (own_sizes (found_of f c).image) X)

-- where no call may have written the card it was read alone
pub read-alone : (app : Application) (now : ℕ) (X Y : State) (answer : Result Entered NotEntered) → (MayHaveWritten answer → ⊥) → IfErr answer (IsRefused app now X Y) → LeavesOnly X Y Unchanged
read-alone app now X Y (Ok e) never refused = absurd (never tt)
read-alone app now X Y (Err UnitFailed) never refused = let reads : Reads X Y false = refused in reads.leaves
read-alone app now X Y (Err CardFailed) never refused = absurd (never tt)
read-alone app now X Y (Err (NotValid fid place)) never refused = let reads : Reads X Y false = refused.0 in reads.leaves
read-alone app now X Y (Err (TimeOverlap stored at)) never refused = let reads : Reads X Y false = refused.0 in reads.leaves

-- a card that is taken in, and noted on behind
pub opens-as : (fell : Bool) (entered : Entered) (clock : ℕ) (entry : Option ℕ) (vehicle : Registration) (e : Entering) (f : CardFound) (X M Y : State) → OpensOn (own_sizes f.image) vehicle e.at.second e.odometer.0 entered.owed.items X M → DoesOn (own_sizes f.image) [] M Y
    → OpensSo (taken_as fell entered clock entry) vehicle e f X Y
opens-as false entered clock None vehicle e f X M Y first next = tt
opens-as true entered clock None vehicle e f X M Y first next = tt
opens-as false entered clock (Some entry) vehicle e f X M Y first next = λ b held shows.
    next (made_by (own_sizes f.image).activity (opens (is_open_in held) vehicle e.odometer.0 (lacked (mark_of b) entered.owed.items)) b) (begun_use vehicle e.at.second) (first b held shows)
opens-as true entered clock (Some entry) vehicle e f X M Y first next = tt

-- a card that was revived before
pub opens-woken : (ending : Ending) (vehicle : Registration) (e : Entering) (f : CardFound) (X M Y : State) → LeavesOnly X M Unchanged → OpensSo ending vehicle e f M Y → OpensSo ending vehicle e f X Y
opens-woken (Unfit fid place) vehicle e f X M Y run next = λ b held shows. next b held (does-read (own_sizes f.image) X M run b held shows)
opens-woken (Ahead stored) vehicle e f X M Y run next = λ b held shows. next b held (does-read (own_sizes f.image) X M run b held shows)
opens-woken Fell vehicle e f X M Y run next = tt
opens-woken Unasked vehicle e f X M Y run next = tt
opens-woken (Unnoted entered clock) vehicle e f X M Y run next = tt
opens-woken (Seated entered clock entry) vehicle e f X M Y run next = λ b held shows. next b held (does-read (own_sizes f.image) X M run b held shows)
opens-woken (Lost entered clock entry) vehicle e f X M Y run next = tt
