-- One image of a card is made of another since a minute: by each call, and by calls one after another.
use Rattle.std.proofs.Common.{◌≡◌, ◌⊎◌, ⊎_elim, inl, inr, ℕ, suc, ◌*◌, ◌/◌, ◌<◌, ◌≤◌, Bool, true, false, cond, Option, Some, None, option_map, List, [], ◌∷◌, ◌++◌, length, refl, sym, ap, subst, ◌∙◌, arith}
use Rattle.std.specs.List.{AllByRecursion}
use Rattle.card_by_hand.specs.activity_codec.declared.values.Activity.{Activity}
use Rattle.card_by_hand.specs.activity_codec.declared.entries.Entry.{Entry}
use Rattle.card_by_hand.specs.activity_codec.declared.entries.Manual.{Manual}
use Rattle.card_by_hand.specs.tacho_types.declared.texts.Registration.{Registration}
use Rattle.tach_media.specs.card_layout.declared.files.Application.{Application}
use Rattle.tach_media.specs.card_layout.Application.{IsApplication}
use Rattle.tach_media.specs.card_layout.Files.{image_size_of}
use Rattle.card_by_hand.specs.card_retention.Shown.{is_open}
use Rattle.card_by_hand.specs.card_image.Fields.{end_mark, last_use_of}
use Rattle.card_by_hand.specs.card_files.declared.vehicle.Vehicle.{Vehicle}
use Rattle.card_by_hand.specs.card_session.Vehicles.{Vehicles, last_use_in}
use Rattle.card_by_hand.specs.card_session.Books.{Book, mark_of, closed, closed_days, last_used, used}
use Rattle.card_by_hand.specs.card_session.Moments.{IsKeepMoment, IsCloseMoment}
use Rattle.card_by_hand.specs.card_session.Sessions.{Session, book_of}
use Rattle.card_by_hand.specs.card_session.Cards.{IsCardClosing}
use Rattle.card_by_hand.specs.card_session.Inserting.{Follow, lacked, IsCardInserting}
use Rattle.card_by_hand.proofs.card_session.InsertingBooks.{lacked_follow}
use Rattle.card_by_hand.proofs.card_session.Marks.{mark_told, use_before}
use Rattle.card_by_hand.proofs.card_session.Preparing.{used_at}
use Rattle.card_by_hand.specs.First.{IsFirstKeeping}
use Rattle.card_string.specs.Deeds.{Keep, Enter, Close, Cut, Step, Done, Broken, Makes, MadeBy, AreNext, IsMade, IsLaterStep, IsMadeSince, IsMadeOn}
use Rattle.card_string.proofs.Deeds.{made_start, made_more, first_stopped, close_made, closed_made, open_parted}

-- ---- calls one after another

later_append : (minute : ℕ) (ss ts : List Step) → AllByRecursion (IsLaterStep minute) ss → AllByRecursion (IsLaterStep minute) ts → AllByRecursion (IsLaterStep minute) (ss ++ ts)
later_append minute [] ts h k = k
later_append minute (s ∷ ss) ts h k = (h.0, later_append minute ss ts h.1 k)

made_append : (size : ℕ) (ss ts : List Step) (b y c : Book) → MadeBy size ss b y → MadeBy size ts y c → MadeBy size (ss ++ ts) b c
made_append size [] ts b y c first next = subst (λ (k : Book). MadeBy size ts k c) first next
made_append size (s ∷ ss) ts b y c first next = (first.0, first.1, made_append size ss ts first.0 y c first.2 next)

pub since_then : (app : Application) (minute : ℕ) (z x y : List ℕ) → IsMadeSince app minute z x → IsMadeSince app minute x y → IsMadeSince app minute z y
since_then app minute z x y first next = record {
  steps = first.steps ++ next.steps;
  later = later_append minute first.steps next.steps first.later next.later;
  made = made_append app.activity first.steps next.steps (book_of app z) (book_of app x) (book_of app y) first.made next.made;
}

-- ---- BY A CALL

-- one that leaves days and vehicle entries
pub since_same : (app : Application) (minute : ℕ) (x y : List ℕ) → book_of app y ≡ book_of app x → IsMadeSince app minute x y
since_same app minute x y same = record { steps = []; later = tt; made = same }

-- steps whose keeps are of these entries, where each of these is later
later_next : (minute : ℕ) (ss : List Step) (all : List Entry) → AreNext ss all → AllByRecursion (λ (e : Entry). minute < e.minute) all → AllByRecursion (IsLaterStep minute) ss
later_next minute [] all next each = tt
later_next minute (Done (Keep k) ∷ ss) [] next each = absurd next
later_next minute (Done (Keep k) ∷ ss) (e ∷ all) next each = (subst (λ (d : Entry). minute < d.minute) (sym next.0) each.0, later_next minute ss all next.1 each.1)
later_next minute (Done (Enter hand) ∷ ss) all next each = (tt, later_next minute ss all next each)
later_next minute (Done (Close act) ∷ ss) all next each = (tt, later_next minute ss all next each)
later_next minute (Done Cut ∷ ss) all next each = (tt, later_next minute ss all next each)
later_next minute (Broken (Keep k) ∷ ss) [] next each = absurd next
later_next minute (Broken (Keep k) ∷ ss) (e ∷ all) next each = (subst (λ (d : Entry). minute < d.minute) (sym next.0) each.0, later_next minute ss (e ∷ all) next.1 each)
later_next minute (Broken (Enter hand) ∷ ss) all next each = (tt, later_next minute ss all next each)
later_next minute (Broken (Close act) ∷ ss) all next each = (tt, later_next minute ss all next each)
later_next minute (Broken Cut ∷ ss) all next each = (tt, later_next minute ss all next each)

since_made : (app : Application) (minute : ℕ) (x : List ℕ) (more all : List Entry) (y : List ℕ) → IsMade app x more all y → AllByRecursion (λ (e : Entry). minute < e.minute) all → IsMadeSince app minute x y
since_made app minute x more all y m each = record { steps = m.deeds.steps; later = later_next minute m.deeds.steps all m.deeds.next each; made = m.deeds.made }

-- a keep, with entries by hand before it
pub keep_since : (minute : ℕ) (s : Session) (hs : List Manual) (e : Entry) (odometer : ℕ) (x y : List ℕ) → minute < e.minute → IsFirstKeeping s hs e odometer x y → IsMadeSince s.application minute x y
keep_since minute s hs e odometer x y late keeping =
    since_made s.application minute x [] (e ∷ []) y
    (first_stopped s x [] (e ∷ []) [] hs e odometer x y refl (made_more s.application x [] [] (e ∷ []) x (made_start s.application x)) keeping)
    (late, tt)

-- a withdrawal
pub close_since : (minute : ℕ) (s : Session) (act : Activity) (x y : List ℕ) → IsApplication s.application → image_size_of s.application ≤ length x → IsCardClosing s act x y → IsMadeSince s.application minute x y
close_since minute s act x y sound fits closing = since_made s.application minute x [] [] y (close_made s act x [] [] x y sound fits (made_start s.application x) closing) tt

follow_later : (minute mark : ℕ) (es : List Entry) → minute ≤ mark → Follow mark es → AllByRecursion (λ (e : Entry). minute < e.minute) es
follow_later minute mark [] le follow = tt
follow_later minute mark (e ∷ es) le follow = (omega (arith, le, follow.0), follow_later minute e.minute es (omega (arith, le, follow.0)) follow.1)

-- an insertion: what it keeps is later than the end mark
pub insert_since : (minute : ℕ) (app : Application) → IsApplication app → (registration : Registration) → length registration.0 ≡ 15 → (odometer now : ℕ) (owed : List Entry) → Follow 1439 owed → (x y : List ℕ) → image_size_of app ≤ length x → minute ≤ end_mark app x → IsCardInserting app registration odometer owed now x y →
    IsMadeSince app minute x y
insert_since minute app sound registration long odometer now owed ordered x y fits low (inl closed) = since_made app minute x [] [] y (closed_made app sound registration long now x [] [] x fits (made_start app x) y closed.1) tt
insert_since minute app sound registration long odometer now owed ordered x y fits low (inr open_) =
    let lacks : List Entry = lacked (end_mark app x) owed in
    let parted = open_parted app sound registration long now x [] lacks x fits (made_more app x [] [] lacks x (made_start app x)) odometer owed ordered refl y open_.1 in
    since_made app minute x ([] ++ parted.done) lacks y parted.made (follow_later minute (end_mark app x) lacks low (lacked_follow 1439 (end_mark app x) owed ordered))

-- ---- NO END MARK FALLS: each that counts the minute counts it still

use_moves : (seconds : ℕ) (v : Vehicles) → (last_use_in (last_used seconds v) ≡ seconds) ⊎ (last_use_in (last_used seconds v) ≡ last_use_in v)
use_moves seconds v = by v.newest refl
  where
    by : (o : Option Vehicle) → v.newest ≡ o → (last_use_in (last_used seconds v) ≡ seconds) ⊎ (last_use_in (last_used seconds v) ≡ last_use_in v)
    by None is = inr (ap (λ (o : Option Vehicle). last_use_of (option_map (used seconds) o)) is ∙ sym (ap (λ (o : Option Vehicle). last_use_of o) is))
    by (Some u) is = inl (ap (λ (o : Option Vehicle). last_use_of (option_map (used seconds) o)) is)

closed_keeps : (size minute : ℕ) (act : Activity) (b : Book) → minute ≤ mark_of b → minute ≤ mark_of (closed size act b)
closed_keeps size minute act b le = by (is_open (mark_of b) b.days)
  where
    ends : Book
    ends = record { days = closed_days size (mark_of b) act b.days; vehicles = last_used (60 * suc (mark_of b)) b.vehicles }

    by : (o : Bool) → minute ≤ mark_of (cond o ends b)
    by false = le
    by true = ⊎_elim (λ now. omega (arith, le, now)) (λ same. omega (arith, le, same)) (use_moves (60 * suc (mark_of b)) b.vehicles)

-- where the vehicle entries are the old ones
same_keeps : (minute : ℕ) (b c : Book) → c.vehicles ≡ b.vehicles → minute ≤ mark_of b → minute ≤ mark_of c
same_keeps minute b c same le = subst (λ (v : Vehicles). minute ≤ last_use_in v / 60) (sym same) le

keep_keeps : (size minute : ℕ) (registration : Registration) (odometer more : ℕ) (e : Entry) (b c : Book) → minute < e.minute → IsKeepMoment size registration odometer more e b c.days c.vehicles → minute ≤ mark_of b → minute ≤ mark_of c
keep_keeps size minute registration odometer more e b c late moment le = ⊎_elim
    (λ old. same_keeps minute b c old.0 le)
    (λ new. ⊎_elim
    (λ before. let same = use_before registration odometer e.minute b.vehicles c.vehicles before in omega (arith, le, same))
    (λ after. let at = ap (λ (v : Vehicles). last_use_in v / 60) after ∙ used_at registration odometer e.minute b.vehicles in omega (arith, late, at)) new.1)
    moment

close_keeps : (size minute : ℕ) (act : Activity) (b c : Book) → IsCloseMoment size act b c.days c.vehicles → minute ≤ mark_of b → minute ≤ mark_of c
close_keeps size minute act b c moment le = ⊎_elim
    (λ old. same_keeps minute b c old.0 le)
    (λ book. same_keeps minute (closed size act b) c book.1 (closed_keeps size minute act b le))
    moment

step_keeps : (size minute : ℕ) (s : Step) (b c : Book) → IsLaterStep minute s → Makes size s b c → minute ≤ mark_of b → minute ≤ mark_of c
step_keeps size minute (Done (Keep k)) b c late made le =
    let at = ap (λ (d : Book). mark_of d) made ∙ used_at k.registration k.odometer k.entry.minute b.vehicles in omega (arith, late, at)
step_keeps size minute (Done (Enter hand)) b c late made le = same_keeps minute b c (ap (λ (d : Book). d.vehicles) made) le
step_keeps size minute (Done (Close act)) b c late made le = subst (λ (d : Book). minute ≤ mark_of d) (sym made) (closed_keeps size minute act b le)
step_keeps size minute (Done Cut) b c late made le = same_keeps minute b c (ap (λ (d : Book). d.vehicles) made) le
step_keeps size minute (Broken (Keep k)) b c late made le = keep_keeps size minute k.registration k.odometer k.km k.entry b c late made le
step_keeps size minute (Broken (Enter hand)) b c late made le = same_keeps minute b c made.1 le
step_keeps size minute (Broken (Close act)) b c late made le = close_keeps size minute act b c made le
step_keeps size minute (Broken Cut) b c late made le = same_keeps minute b c made.1 le

made_keeps : (size minute : ℕ) (ss : List Step) (b c : Book) → AllByRecursion (IsLaterStep minute) ss → MadeBy size ss b c → minute ≤ mark_of b → minute ≤ mark_of c
made_keeps size minute [] b c later made le = subst (λ (d : Book). minute ≤ mark_of d) (sym made) le
made_keeps size minute (s ∷ ss) b c later made le = made_keeps size minute ss made.0 c later.1 made.2 (step_keeps size minute s b made.0 later.0 made.1 le)

pub since_marks : (app : Application) (minute : ℕ) (x y : List ℕ) → IsMadeSince app minute x y → minute ≤ mark_of (book_of app x) → minute ≤ mark_of (book_of app y)
since_marks app minute x y m le = made_keeps app.activity minute m.steps (book_of app x) (book_of app y) m.later m.made le

-- ---- SO AN IMAGE GOES ON

pub on_same : (app : Application) (x y : List ℕ) → book_of app y ≡ book_of app x → IsMadeOn app x y
on_same app x y same minute le = since_same app minute x y same

pub on_then : (app : Application) (x y z : List ℕ) → IsMadeOn app x y → IsMadeOn app y z → IsMadeOn app x z
on_then app x y z first next minute le = since_then app minute x y z (first minute le) (next minute (since_marks app minute x y (first minute le) le))

-- a keep of a minute behind the end mark
pub on_keep : (s : Session) (hs : List Manual) (e : Entry) (odometer : ℕ) (x y : List ℕ) → mark_of (book_of s.application x) < e.minute → IsFirstKeeping s hs e odometer x y → IsMadeOn s.application x y
on_keep s hs e odometer x y late keeping minute le = keep_since minute s hs e odometer x y (omega (arith, le, late)) keeping

-- a withdrawal
pub on_close : (s : Session) (act : Activity) (x y : List ℕ) → IsApplication s.application → image_size_of s.application ≤ length x → IsCardClosing s act x y → IsMadeOn s.application x y
on_close s act x y sound fits closing minute le = close_since minute s act x y sound fits closing

-- an insertion
pub on_insert : (app : Application) → IsApplication app → (registration : Registration) → length registration.0 ≡ 15 → (odometer now : ℕ) (owed : List Entry) → Follow 1439 owed → (x y : List ℕ) → image_size_of app ≤ length x → IsCardInserting app registration odometer owed now x y → IsMadeOn app x y
on_insert app sound registration long odometer now owed ordered x y fits inserting minute le =
    insert_since minute app sound registration long odometer now owed ordered x y fits (subst (λ (n : ℕ). minute ≤ n) (sym (mark_told app x)) le) inserting
