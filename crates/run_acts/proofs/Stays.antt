-- The stays of a card, over what each call makes of it.
use Rattle.std.proofs.Common.{◌≡◌, ◌≤◌, ◌∙◌, inl, inr, ℕ, Bool, true, false, List, [], ◌∷◌, ◌++◌, append_assoc, Option, Some, None, refl, ap, sym, subst, arith}
use Rattle.std.specs.Prelude.{IfSome, length}
use Rattle.std.specs.List.{AllByRecursion}
use Rattle.activity_codec.specs.declared.values.Activity.{Activity}
use Rattle.activity_codec.specs.declared.entries.Entry.{Entry}
use Rattle.activity_codec.specs.declared.entries.Manual.{Manual}
use Rattle.tach_media.specs.Medium.{State}
use Rattle.tacho_types.specs.declared.numbers.Odometer.{Odometer}
use Rattle.tacho_types.specs.declared.texts.Registration.{Registration}
use Rattle.card_files.specs.card_layout.declared.files.Application.{Application}
use Rattle.hand_model.specs.card_image.View.{card_view}
use Rattle.hand_model.specs.card_image.Own.{own_sizes}
use Rattle.hand_model.specs.card_image.Fields.{current_use}
use Rattle.card_files.specs.declared.current_use.CurrentUse.{CurrentUse}
use Rattle.device_calls.specs.card_session.declared.session.Kept.{Kept}
use Rattle.device_calls.specs.card_session.Books.{Book, mark_of}
use Rattle.device_calls.specs.card_session.Sessions.{book_of}
use Rattle.device_calls.specs.card_session.Inserting.{lacked}
use Rattle.device_calls.specs.card_string.Deeds.{Deed, Close}
use Rattle.run_crew.specs.declared.cards.Accepted.{Accepted}
use Rattle.run_minutes.specs.run_promise.Found.{CardFound}
use Rattle.run_minutes.specs.CardDeeds.{made_by, is_open_in, ShowsBook, DoesOn, keeps, holds_after, last_odometer, opens, OpensOn, ClosesOn}
use Rattle.run_minutes.specs.Deeds.{KeepsOn}
use Rattle.run_minutes.proofs.CardDeeds.{made-append, keeps-append, holds-append, last-append}
use Rattle.log_model.specs.declared.lines.Find.{Find}
use Rattle.log_model.specs.declared.lines.Verdict.TheVariants.{Accepted as AcceptedWith}
use Rattle.run_acts.specs.Closings.{Spell, last_shut, with_last_shut, last_slot}
use Rattle.run_acts.specs.Truths.{Truths, Grow}
use Rattle.run_acts.specs.Stays.{Shut, Stay, Shown, Coming, comings_of, comings_on, closes, deeds_of, use_after, after_stay, after_stays, start_shown, stay_spell, spells, as_noted, AreMerged, IsTrueOf, GoesIn, StaysIn, HasStays, stored_by, AreOwed, judged_in, IsTurnedAway, IsJudged, AreJudged}
use Rattle.run_acts.specs.ByHand.{holding}

-- ---- the last of some stays

last_as : (Stay → Stay) → Stay → List Stay → List Stay
last_as f s [] = f s ∷ []
last_as f s (t ∷ ss) = s ∷ last_as f t ss

-- the last one becomes this
pub on_last : (Stay → Stay) → List Stay → List Stay
on_last f [] = []
on_last f (s ∷ ss) = last_as f s ss

last-as : (f : Stay → Stay) (t : Stay) (front : List Stay) (s : Stay) → last_as f t (front ++ s ∷ []) ≡ t ∷ (front ++ f s ∷ [])
unfolding last_as
last-as f t [] s = refl
last-as f t (x ∷ front) s = ap (λ (l : List Stay). t ∷ l) (last-as f x front s)

pub on-last : (f : Stay → Stay) (front : List Stay) (s : Stay) → on_last f (front ++ s ∷ []) ≡ front ++ f s ∷ []
unfolding on_last last_as
on-last f [] s = refl
on-last f (t ∷ front) s = last-as f t front s

-- with the same lines by which its card was judged
last-judged : (f : Stay → Stay) → ((s : Stay) → (f s).found ≡ s.found) → ((s : Stay) → (f s).turned ≡ s.turned) → (t : Stay) (ss : List Stay) (since : List Find) → judged_in (last_as f t ss) since ≡ judged_in (t ∷ ss) since
unfolding last_as
last-judged f same as_ t [] since = λ i. as_ t i ++ same t i ∷ since
last-judged f same as_ t (x ∷ ss) since = ap (λ (l : List Find). t.turned ++ t.found ∷ l) (last-judged f same as_ x ss since)

pub on-last-judged : (f : Stay → Stay) → ((s : Stay) → (f s).found ≡ s.found) → ((s : Stay) → (f s).turned ≡ s.turned) → (ss : List Stay) (since : List Find) → judged_in (on_last f ss) since ≡ judged_in ss since
unfolding on_last
on-last-judged f same as_ [] since = refl
on-last-judged f same as_ (t ∷ ss) since = last-judged f same as_ t ss since

last-verdicts : (f : Stay → Stay) → ((p : Shown) (s : Stay) → IsJudged p s → IsJudged p (f s)) → (vehicle : Registration) (size : ℕ) (t : Stay) (ss : List Stay) (p : Shown) → AreJudged vehicle size (t ∷ ss) [] p → AreJudged vehicle size (last_as f t ss) [] p
unfolding last_as
last-verdicts f goes vehicle size t [] p h = (goes p t h.0, tt)
last-verdicts f goes vehicle size t (x ∷ ss) p h = (h.0, last-verdicts f goes vehicle size x ss (after_stay vehicle size t p) h.1)

-- which judged it so, where none did since
pub on-last-verdicts : (f : Stay → Stay) → ((p : Shown) (s : Stay) → IsJudged p s → IsJudged p (f s)) → (vehicle : Registration) (size : ℕ) (ss : List Stay) (since : List Find) (p : Shown) → since ≡ [] → AreJudged vehicle size ss since p → AreJudged vehicle size (on_last f ss) since p
unfolding on_last
on-last-verdicts f goes vehicle size [] since p none h = h
on-last-verdicts f goes vehicle size (t ∷ ss) since p none h =
    subst (λ (l : List Find). AreJudged vehicle size (last_as f t ss) l p) (sym none) (last-verdicts f goes vehicle size t ss p (subst (λ (l : List Find). AreJudged vehicle size (t ∷ ss) l p) none h))

-- one stay more, and one line more
pub judged-more : (ss : List Stay) (s : Stay) → judged_in (ss ++ s ∷ []) [] ≡ judged_in ss s.turned ++ s.found ∷ []
judged-more [] s = refl
judged-more (t ∷ ss) s = ap (λ (l : List Find). t.turned ++ t.found ∷ l) (judged-more ss s) ∙ sym (append_assoc t.turned (t.found ∷ judged_in ss s.turned) (s.found ∷ []))

pub judged-late : (ss : List Stay) (since : List Find) (g : Find) → judged_in ss (since ++ g ∷ []) ≡ judged_in ss since ++ g ∷ []
judged-late [] since g = refl
judged-late (t ∷ ss) since g = ap (λ (l : List Find). t.turned ++ t.found ∷ l) (judged-late ss since g) ∙ sym (append_assoc t.turned (t.found ∷ judged_in ss since) (g ∷ []))

pub verdicts-more : (vehicle : Registration) (size : ℕ) (ss : List Stay) (s : Stay) (p : Shown) → AreJudged vehicle size ss s.turned p → s.found.verdict ≡ AcceptedWith (length s.owed) → stored_by (after_stays vehicle size ss p) ≤ s.found.second → AreJudged vehicle size (ss ++ s ∷ []) [] p
verdicts-more vehicle size [] s p h tells early = ((h, tells, early), tt)
verdicts-more vehicle size (t ∷ ss) s p h tells early = (h.0, verdicts-more vehicle size ss s (after_stay vehicle size t p) h.1 tells early)

lines-more : (p : Shown) (fs : List Find) (g : Find) → AllByRecursion (IsTurnedAway p) fs → IsTurnedAway p g → AllByRecursion (IsTurnedAway p) (fs ++ g ∷ [])
lines-more p [] g h is = (is, tt)
lines-more p (x ∷ fs) g h is = (h.0, lines-more p fs g h.1 is)

pub verdicts-late : (vehicle : Registration) (size : ℕ) (ss : List Stay) (since : List Find) (g : Find) (p : Shown) → AreJudged vehicle size ss since p → IsTurnedAway (after_stays vehicle size ss p) g → AreJudged vehicle size ss (since ++ g ∷ []) p
verdicts-late vehicle size [] since g p h is = lines-more p since g h is
verdicts-late vehicle size (t ∷ ss) since g p h is = (h.0, verdicts-late vehicle size ss since g (after_stay vehicle size t p) h.1 is)

-- to which so much was owed
last-owes : (Owes : Find → (mark : ℕ) → List Entry → Type 0) (f : Stay → Stay) → ((s : Stay) → (f s).found ≡ s.found) → ((s : Stay) → (f s).owed ≡ s.owed) → (vehicle : Registration) (size : ℕ) (t : Stay) (ss : List Stay) (p : Shown) →
    AreOwed Owes vehicle size (t ∷ ss) p → AreOwed Owes vehicle size (last_as f t ss) p
unfolding last_as
last-owes Owes f same owes vehicle size t [] p h =
    (subst (λ (g : Find). Owes g (mark_of p.book) (f t).owed) (sym (same t)) (subst (λ (es : List Entry). Owes t.found (mark_of p.book) es) (sym (owes t)) h.0), tt)
last-owes Owes f same owes vehicle size t (x ∷ ss) p h = (h.0, last-owes Owes f same owes vehicle size x ss (after_stay vehicle size t p) h.1)

pub on-last-owes : (Owes : Find → (mark : ℕ) → List Entry → Type 0) (f : Stay → Stay) → ((s : Stay) → (f s).found ≡ s.found) → ((s : Stay) → (f s).owed ≡ s.owed) → (vehicle : Registration) (size : ℕ) (ss : List Stay) (p : Shown) →
    AreOwed Owes vehicle size ss p → AreOwed Owes vehicle size (on_last f ss) p
unfolding on_last
on-last-owes Owes f same owes vehicle size [] p h = tt
on-last-owes Owes f same owes vehicle size (t ∷ ss) p h = last-owes Owes f same owes vehicle size t ss p h

pub owes-more : (Owes : Find → (mark : ℕ) → List Entry → Type 0) (vehicle : Registration) (size : ℕ) (ss : List Stay) (s : Stay) (p : Shown) → AreOwed Owes vehicle size ss p → Owes s.found (mark_of (after_stays vehicle size ss p).book) s.owed →
    AreOwed Owes vehicle size (ss ++ s ∷ []) p
owes-more Owes vehicle size [] s p h is = (is, tt)
owes-more Owes vehicle size (t ∷ ss) s p h is = (h.0, owes-more Owes vehicle size ss s (after_stay vehicle size t p) h.1 is)

pub owes-grow : (Owes now : Find → (mark : ℕ) → List Entry → Type 0) → ((f : Find) (mark : ℕ) (es : List Entry) → Owes f mark es → now f mark es) → (vehicle : Registration) (size : ℕ) (ss : List Stay) (p : Shown) →
    AreOwed Owes vehicle size ss p → AreOwed now vehicle size ss p
owes-grow Owes now goes vehicle size [] p h = tt
owes-grow Owes now goes vehicle size (s ∷ ss) p h = (goes s.found (mark_of p.book) s.owed h.0, owes-grow Owes now goes vehicle size ss (after_stay vehicle size s p) h.1)

-- an image has the stored time of what it shows
stored-own : (app : Application) (x : List ℕ) → (card_view app x).stored ≡ stored_by (record { book = book_of app x; held = current_use app x })
unfolding card_view book_of
stored-own app x = refl

pub stored-shown : (app : Application) (x : List ℕ) (p : Shown) → book_of app x ≡ p.book → current_use app x ≡ p.held → (card_view app x).stored ≡ stored_by p
stored-shown app x p is on = stored-own app x ∙ ap (λ (b : Book). stored_by (record { book = b; held = current_use app x })) is ∙ ap (λ (u : CurrentUse). stored_by (record { book = p.book; held = u })) on

-- where an image shows this, and has an earlier time
pub in-time : (app : Application) (x : List ℕ) (p : Shown) (u : ℕ) → book_of app x ≡ p.book → current_use app x ≡ p.held → (card_view app x).stored ≤ u → stored_by p ≤ u
in-time app x p u is on le = let same = stored-shown app x p is on in omega (arith, same, le)

-- with none there is none
pub on-last-none : (f : Stay → Stay) (ss : List Stay) → ss ≡ [] → on_last f ss ≡ []
unfolding on_last
on-last-none f ss none = ap (on_last f) none

-- ---- how many

-- a line more is that of one stay more, of the one card or of the other
pub merged-one : {L : Type 0} (lines one other : List L) (f : L) → AreMerged lines one other → AreMerged (lines ++ f ∷ []) (one ++ f ∷ []) other
merged-one {L} [] one other f h = inl ([], ap (λ (l : List L). l ++ f ∷ []) h.0, (refl, h.1))
merged-one {L} (x ∷ lines) one other f (inl h) = inl (h.0 ++ f ∷ [], ap (λ (l : List L). l ++ f ∷ []) h.1, merged-one lines h.0 other f h.2)
merged-one {L} (x ∷ lines) one other f (inr h) = inr (h.0, h.1, merged-one lines one h.0 f h.2)

pub merged-other : {L : Type 0} (lines one other : List L) (f : L) → AreMerged lines one other → AreMerged (lines ++ f ∷ []) one (other ++ f ∷ [])
merged-other {L} [] one other f h = inr ([], ap (λ (l : List L). l ++ f ∷ []) h.1, (h.0, refl))
merged-other {L} (x ∷ lines) one other f (inl h) = inl (h.0, h.1, merged-other lines h.0 other f h.2)
merged-other {L} (x ∷ lines) one other f (inr h) = inr (h.0 ++ f ∷ [], ap (λ (l : List L). l ++ f ∷ []) h.1, merged-other lines one h.0 f h.2)

-- with more minutes, and closed
abbrev pub with_kepts : List Kept → Stay → Stay
with_kepts ks s = record s { kepts = s.kepts ++ ks }

abbrev pub with_end : Shut → Stay → Stay
with_end x s = record s { closed = Some x }

-- with an entry by hand more
abbrev pub with_hand : Manual → Stay → Stay
with_hand e s = record s { by_hand = s.by_hand ++ e ∷ [] }

-- ---- their spells

spells-more : (ss : List Stay) (s : Stay) → spells (ss ++ s ∷ []) ≡ spells ss ++ stay_spell s ∷ []
spells-more [] s = refl
spells-more (t ∷ ss) s = ap (λ (l : List Spell). stay_spell t ∷ l) (spells-more ss s)

kept-spells : (ks : List Kept) (t : Stay) (ss : List Stay) → spells (last_as (with_kepts ks) t ss) ≡ spells (t ∷ ss)
unfolding last_as
kept-spells ks t [] = refl
kept-spells ks t (x ∷ ss) = ap (λ (l : List Spell). stay_spell t ∷ l) (kept-spells ks x ss)

-- minutes that are kept leave them
on-last-kept : (ks : List Kept) (ss : List Stay) → spells (on_last (with_kepts ks) ss) ≡ spells ss
unfolding on_last
on-last-kept ks [] = refl
on-last-kept ks (t ∷ ss) = kept-spells ks t ss

hand-spells : (e : Manual) (t : Stay) (ss : List Stay) → spells (last_as (with_hand e) t ss) ≡ spells (t ∷ ss)
unfolding last_as
hand-spells e t [] = refl
hand-spells e t (x ∷ ss) = ap (λ (l : List Spell). stay_spell t ∷ l) (hand-spells e x ss)

-- nor does an entry by hand change them
pub on-last-hand : (e : Manual) (ss : List Stay) → spells (on_last (with_hand e) ss) ≡ spells ss
unfolding on_last
on-last-hand e [] = refl
on-last-hand e (t ∷ ss) = hand-spells e t ss

shut-spells : (x : Shut) (t : Stay) (ss : List Stay) → spells (last_as (with_end x) t ss) ≡ last_shut x.second (stay_spell t) (spells ss)
unfolding last_as
shut-spells x t [] = refl
shut-spells x t (z ∷ ss) = ap (λ (l : List Spell). stay_spell t ∷ l) (shut-spells x z ss)

-- and a closing shuts the last one
on-last-shut : (x : Shut) (ss : List Stay) → spells (on_last (with_end x) ss) ≡ with_last_shut x.second (spells ss)
unfolding on_last
on-last-shut x [] = refl
on-last-shut x (t ∷ ss) = shut-spells x t ss

-- whichever session it is
noted-alike : (u : ℕ) (a b : Accepted) (sits : Bool) (ss : List Spell) → as_noted u (Some b) sits ss ≡ as_noted u (Some a) sits ss
noted-alike u a b true ss = refl
noted-alike u a b false ss = refl

-- ---- the slot of the last one

-- a spell more is the last
pub last-slot-more : (ss : List Spell) (s : Spell) → last_slot (ss ++ s ∷ []) ≡ Some s.slot
last-slot-more [] s = refl
last-slot-more (t ∷ []) s = refl
last-slot-more (t ∷ x ∷ ss) s = last-slot-more (x ∷ ss) s

shut-slot : (u : ℕ) (s : Spell) (ss : List Spell) → last_slot (last_shut u s ss) ≡ last_slot (s ∷ ss)
shut-slot u s [] = refl
shut-slot u s (t ∷ []) = refl
shut-slot u s (t ∷ x ∷ ss) = shut-slot u t (x ∷ ss)

-- it is withdrawn in its slot
pub last-shut-slot : (u : ℕ) (ss : List Spell) → last_slot (with_last_shut u ss) ≡ last_slot ss
last-shut-slot u [] = refl
last-shut-slot u (s ∷ ss) = shut-slot u s ss

-- what holds of two lists holds of both
pub all-both : {X : Type 0} (P : X → Type 0) (xs ys : List X) → AllByRecursion P xs → AllByRecursion P ys → AllByRecursion P (xs ++ ys)
all-both P [] ys hx hy = hy
all-both P (x ∷ xs) ys hx hy = (hx.0, all-both P xs ys hx.1 hy)

-- the slot of the last spell is that of the last stay
pub last-spelled : (front : List Stay) (s : Stay) → last_slot (spells (front ++ s ∷ [])) ≡ Some s.found.slot
last-spelled [] s = refl
last-spelled (t ∷ []) s = refl
last-spelled (t ∷ x ∷ front) s = last-spelled (x ∷ front) s

-- ---- what is true of them

true-last : (t : Truths) (f : Stay → Stay) → (x : Stay) (ss : List Stay) → ((s : Stay) (front : List Stay) → x ∷ ss ≡ front ++ s ∷ [] → IsTrueOf t s → IsTrueOf t (f s)) → AllByRecursion (IsTrueOf t) (x ∷ ss) → AllByRecursion (IsTrueOf t) (last_as f x ss)
unfolding last_as
true-last t f x [] goes all = (goes x [] refl all.0, tt)
true-last t f x (y ∷ ss) goes all = (all.0, true-last t f y ss (λ s front is was. goes s (x ∷ front) (ap (λ (l : List Stay). x ∷ l) is) was) all.1)

-- what becomes of the last stay is true
pub on-last-true : (t : Truths) (f : Stay → Stay) → (ss : List Stay) → ((s : Stay) (front : List Stay) → ss ≡ front ++ s ∷ [] → IsTrueOf t s → IsTrueOf t (f s)) → AllByRecursion (IsTrueOf t) ss → AllByRecursion (IsTrueOf t) (on_last f ss)
unfolding on_last
on-last-true t f [] goes all = tt
on-last-true t f (x ∷ ss) goes all = true-last t f x ss goes all

pub true-more : (t : Truths) (ss : List Stay) (s : Stay) → AllByRecursion (IsTrueOf t) ss → IsTrueOf t s → AllByRecursion (IsTrueOf t) (ss ++ s ∷ [])
true-more t [] s all one = (one, tt)
true-more t (x ∷ ss) s all one = (all.0, true-more t ss s all.1 one)

kepts-more : (t : Truths) (ks more : List Kept) → AllByRecursion t.kept ks → AllByRecursion t.kept more → AllByRecursion t.kept (ks ++ more)
kepts-more t [] more all others = others
kepts-more t (k ∷ ks) more all others = (all.0, kepts-more t ks more all.1 others)

-- with more minutes
pub true-kepts : (t : Truths) (ks : List Kept) → AllByRecursion t.kept ks → (s : Stay) → IsTrueOf t s → IsTrueOf t (with_kepts ks s)
true-kepts t ks all s h = (h.0, kepts-more t s.kepts ks h.1 all, h.2)

-- and so it stays
kepts-grow : (t u : Truths) → Grow t u → (ks : List Kept) → AllByRecursion t.kept ks → AllByRecursion u.kept ks
kepts-grow t u g [] all = tt
kepts-grow t u g (k ∷ ks) all = (g.kept k all.0, kepts-grow t u g ks all.1)

true-grows : (t u : Truths) → Grow t u → (s : Stay) → IsTrueOf t s → IsTrueOf u s
true-grows t u g s h = (g.accepted s.found s.odometer h.0, kepts-grow t u g s.kepts h.1, by s.closed h.2)
  where
    by : (q : Option Shut) → IfSome q (λ x. t.closed s.found x.second x.word) → IfSome q (λ x. u.closed s.found x.second x.word)
    by None is = tt
    by (Some x) is = g.closed s.found x.second x.word is

pub all-true-grow : (t u : Truths) → Grow t u → (ss : List Stay) → AllByRecursion (IsTrueOf t) ss → AllByRecursion (IsTrueOf u) ss
all-true-grow t u g [] all = tt
all-true-grow t u g (s ∷ ss) all = (true-grows t u g s all.0, all-true-grow t u g ss all.1)

-- ---- the comings

last-comings : (vehicle : Registration) (size : ℕ) (f : Stay → Stay) → ((s : Stay) → (f s).found ≡ s.found) → (t : Stay) (ss : List Stay) (p : Shown) → comings_of vehicle size (last_as f t ss) p ≡ comings_of vehicle size (t ∷ ss) p
unfolding last_as
last-comings vehicle size f same t [] p = ap (λ (k : Find). record { found = k; before = p.book.vehicles.newest } ∷ []) (same t)
last-comings vehicle size f same t (x ∷ ss) p = ap (λ (l : List Coming). record { found = t.found; before = p.book.vehicles.newest } ∷ l) (last-comings vehicle size f same x ss (after_stay vehicle size t p))

-- whatever becomes of the last stay leaves them
pub on-last-comings : (vehicle : Registration) (image : List ℕ) (f : Stay → Stay) → ((s : Stay) → (f s).found ≡ s.found) → (ss : List Stay) → comings_on vehicle image (on_last f ss) ≡ comings_on vehicle image ss
unfolding on_last
on-last-comings vehicle image f same [] = refl
on-last-comings vehicle image f same (t ∷ ss) = last-comings vehicle (own_sizes image).activity f same t ss (start_shown image)

comings-more : (vehicle : Registration) (size : ℕ) (ss : List Stay) (s : Stay) (p : Shown) → comings_of vehicle size (ss ++ s ∷ []) p ≡ comings_of vehicle size ss p ++ record { found = s.found; before = (after_stays vehicle size ss p).book.vehicles.newest } ∷ []
comings-more vehicle size [] s p = refl
comings-more vehicle size (t ∷ ss) s p = ap (λ (l : List Coming). record { found = t.found; before = p.book.vehicles.newest } ∷ l) (comings-more vehicle size ss s (after_stay vehicle size t p))

-- one stay more has come behind what the others make of its card
abbrev pub coming_behind : Registration → (image : List ℕ) → List Stay → Find → Coming
coming_behind vehicle image ss found = record { found = found; before = (after_stays vehicle (own_sizes image).activity ss (start_shown image)).book.vehicles.newest }

pub one-coming : (vehicle : Registration) (image : List ℕ) (ss : List Stay) (s : Stay) → comings_on vehicle image (ss ++ s ∷ []) ≡ comings_on vehicle image ss ++ coming_behind vehicle image ss s.found ∷ []
one-coming vehicle image ss s = comings-more vehicle (own_sizes image).activity ss s (start_shown image)

stays-append : (vehicle : Registration) (size : ℕ) (ss ts : List Stay) (p : Shown) → after_stays vehicle size (ss ++ ts) p ≡ after_stays vehicle size ts (after_stays vehicle size ss p)
stays-append vehicle size [] ts p = refl
stays-append vehicle size (s ∷ ss) ts p = stays-append vehicle size ss ts (after_stay vehicle size s p)

module _ (u : ℕ) (f : CardFound) (vehicle : Registration) where
  abbrev app : Application
  app = own_sizes f.image

  abbrev size : ℕ
  size = app.activity

  abbrev shown_by : List Stay → Shown
  shown_by ss = after_stays vehicle size ss (start_shown f.image)

  abbrev Shows : Shown → State → Type 0
  Shows p X = ShowsBook app p.book p.held X

  -- one more behind some
  behind : (front : List Stay) (s : Stay) → shown_by (front ++ s ∷ []) ≡ after_stay vehicle size s (shown_by front)
  behind front s = stays-append vehicle size front (s ∷ []) (start_shown f.image)

  -- what the deeds of a stay make is that of its parts
  parts : (s : Stay) (p : Shown) → made_by size (deeds_of vehicle (is_open_in p.held) p.book s) p.book
      ≡ made_by size (closes s.closed) (made_by size (keeps vehicle None s.by_hand s.kepts) (made_by size (opens (is_open_in p.held) vehicle s.odometer (lacked (mark_of p.book) s.owed)) p.book))
  parts s p =
      let first : List Deed = opens (is_open_in p.held) vehicle s.odometer (lacked (mark_of p.book) s.owed) in
      made-append size first (keeps vehicle None s.by_hand s.kepts ++ closes s.closed) p.book ∙ made-append size (keeps vehicle None s.by_hand s.kepts) (closes s.closed) (made_by size first p.book)

  -- at the start
  pub stays-start : (sits : Bool) (X : State) → ((y : List ℕ) → X.may_leave y → y ≡ f.image) → HasStays u f vehicle [] sits [] None X
  stays-start sits X only = record { shows = λ y left. (ap (book_of app) (only y left), ap (current_use app) (only y left)); goes = tt; spell = refl }

  -- nothing is done on it
  pub stays-still : (noted : List Spell) (sits : Bool) (ss : List Stay) (s : Option Accepted) (X Y : State) → DoesOn app [] X Y → HasStays u f vehicle noted sits ss s X → HasStays u f vehicle noted sits ss s Y
  stays-still noted sits ss s X Y does h = record { shows = does (shown_by ss).book (shown_by ss).held h.shows; goes = h.goes; spell = h.spell }

  -- its session and its seat become others, as it is noted, or its session is gone
  pub stays-moved : (noted now : List Spell) (sits sits_now : Bool) (ss : List Stay) (s t : Option Accepted) (X : State) → (StaysIn vehicle ss s → StaysIn vehicle ss t) → (as_noted u s sits (spells ss) ≡ noted → as_noted u t sits_now (spells ss) ≡ now) →
      HasStays u f vehicle noted sits ss s X → HasStays u f vehicle now sits_now ss t X
  stays-moved noted now sits sits_now ss s t X goes spell h = record { shows = h.shows; goes = goes h.goes; spell = spell h.spell }

  -- it keeps some minutes
  module _ (noted : List Spell) (sits : Bool) (ss : List Stay) (ks : List Kept) (a b : Accepted) (X Y : State) (on : KeepsOn f ks (Some a) (Some b) X Y) (h : HasStays u f vehicle noted sits ss (Some a) X) where
    abbrev g : GoesIn vehicle ss a
    g = h.goes

    abbrev kept_stay : Stay
    kept_stay = with_kepts ks g.stay

    abbrev before : Shown
    before = shown_by g.front

    abbrev opened : Book
    opened = made_by size (opens (is_open_in before.held) vehicle g.stay.odometer (lacked (mark_of before.book) g.stay.owed)) before.book

    was : Shows (after_stay vehicle size g.stay before) X
    was = subst (λ (p : Shown). Shows p X) (ap shown_by g.are ∙ behind g.front g.stay) h.shows

    was-book : made_by size (deeds_of vehicle (is_open_in before.held) before.book g.stay) before.book ≡ made_by size (keeps vehicle None g.stay.by_hand g.stay.kepts) opened
    was-book = parts g.stay before ∙ ap (λ (o : Option Shut). made_by size (closes o) (made_by size (keeps vehicle None g.stay.by_hand g.stay.kepts) opened)) g.still

    now-book : made_by size (deeds_of vehicle (is_open_in before.held) before.book kept_stay) before.book
        ≡ made_by size (keeps vehicle (last_odometer None g.stay.kepts) (holds_after g.stay.by_hand g.stay.kepts) ks) (made_by size (keeps vehicle None g.stay.by_hand g.stay.kepts) opened)
    now-book =
        parts kept_stay before ∙ ap (λ (o : Option Shut). made_by size (closes o) (made_by size (keeps vehicle None g.stay.by_hand (g.stay.kepts ++ ks)) opened)) g.still
        ∙ ap (λ (ds : List Deed). made_by size ds opened) (keeps-append vehicle None g.stay.by_hand g.stay.kepts ks)
        ∙ made-append size (keeps vehicle None g.stay.by_hand g.stay.kepts) (keeps vehicle (last_odometer None g.stay.kepts) (holds_after g.stay.by_hand g.stay.kepts) ks) opened

    same-keeps : keeps a.session.registration a.session.odometer a.held.entries ks ≡ keeps vehicle (last_odometer None g.stay.kepts) (holds_after g.stay.by_hand g.stay.kepts) ks
    same-keeps =
        ap (λ (r : Registration). keeps r a.session.odometer a.held.entries ks) g.registered ∙ ap (λ (o : Option Odometer). keeps vehicle o a.held.entries ks) g.odometer
        ∙ ap (λ (l : List Manual). keeps vehicle (last_odometer None g.stay.kepts) l ks) g.held

    made : Shows (after_stay vehicle size kept_stay before) Y
    made = subst (λ (c : Book). ShowsBook app c (use_after vehicle g.stay) Y)
        (ap (λ (ds : List Deed). made_by size ds (made_by size (deeds_of vehicle (is_open_in before.held) before.book g.stay) before.book)) same-keeps
        ∙ ap (made_by size (keeps vehicle (last_odometer None g.stay.kepts) (holds_after g.stay.by_hand g.stay.kepts) ks)) was-book ∙ sym now-book)
        (on.4 (after_stay vehicle size g.stay before).book (after_stay vehicle size g.stay before).held was)

    now-are : on_last (with_kepts ks) ss ≡ g.front ++ kept_stay ∷ []
    now-are = ap (on_last (with_kepts ks)) g.are ∙ on-last (with_kepts ks) g.front g.stay

    pub stays-keep : HasStays u f vehicle noted sits (on_last (with_kepts ks) ss) (Some b) Y
    stays-keep = record {
      shows = subst (λ (p : Shown). Shows p Y) (sym (ap shown_by now-are ∙ behind g.front kept_stay)) made;
      goes = record {
        front = g.front;
        stay = kept_stay;
        are = now-are;
        still = g.still;
        registered = on.0 ∙ g.registered;
        odometer = on.1 ∙ ap (λ (o : Option Odometer). last_odometer o ks) g.odometer ∙ sym (last-append None g.stay.kepts ks);
        held = on.2 ∙ ap (λ (l : List Manual). holds_after l ks) g.held ∙ sym (holds-append g.stay.by_hand g.stay.kepts ks);
        free = λ none. let was = on.3 none in ap (λ (l : List Kept). l ++ ks) (g.free was.0) ∙ was.1;
      };
      spell = noted-alike u a b sits (spells (on_last (with_kepts ks) ss)) ∙ ap (λ (l : List Spell). as_noted u (Some a) sits l) (on-last-kept ks ss) ∙ h.spell;
    }

  -- its session takes an entry by hand, and has kept no minute
  module _ (noted : List Spell) (sits : Bool) (ss : List Stay) (e : Manual) (a : Accepted) (X : State) (begun : a.held.begun ≡ None) (h : HasStays u f vehicle noted sits ss (Some a) X) where
    abbrev was_stay : Stay
    was_stay = h.goes.stay

    abbrev hand_stay : Stay
    hand_stay = with_hand e was_stay

    no-keeps : (hs : List Manual) → keeps vehicle None hs was_stay.kepts ≡ []
    no-keeps hs = ap (λ (ks : List Kept). keeps vehicle None hs ks) (h.goes.free begun)

    hand-same : (p : Shown) → after_stay vehicle size hand_stay p ≡ after_stay vehicle size was_stay p
    hand-same p =
        ap (λ (ds : List Deed). record { book = made_by size (opens (is_open_in p.held) vehicle was_stay.odometer (lacked (mark_of p.book) was_stay.owed) ++ (ds ++ closes was_stay.closed)) p.book; held = use_after vehicle was_stay })
        (no-keeps (was_stay.by_hand ++ e ∷ []) ∙ sym (no-keeps was_stay.by_hand))

    hand-are : on_last (with_hand e) ss ≡ h.goes.front ++ hand_stay ∷ []
    hand-are = ap (on_last (with_hand e)) h.goes.are ∙ on-last (with_hand e) h.goes.front was_stay

    hand-shown : shown_by (on_last (with_hand e) ss) ≡ shown_by ss
    hand-shown = ap shown_by hand-are ∙ behind h.goes.front hand_stay ∙ hand-same (shown_by h.goes.front) ∙ sym (behind h.goes.front was_stay) ∙ sym (ap shown_by h.goes.are)

    pub stays-enter : HasStays u f vehicle noted sits (on_last (with_hand e) ss) (Some (holding e a)) X
    stays-enter = record {
      shows = subst (λ (p : Shown). Shows p X) (sym hand-shown) h.shows;
      goes = record {
        front = h.goes.front;
        stay = hand_stay;
        are = hand-are;
        still = h.goes.still;
        registered = h.goes.registered;
        odometer = h.goes.odometer;
        held =
            ap (λ (l : List Manual). l ++ e ∷ []) h.goes.held ∙ ap (λ (ks : List Kept). holds_after was_stay.by_hand ks ++ e ∷ []) (h.goes.free begun)
            ∙ sym (ap (λ (ks : List Kept). holds_after (was_stay.by_hand ++ e ∷ []) ks) (h.goes.free begun));
        free = λ none. h.goes.free none;
      };
      spell = noted-alike u a (holding e a) sits (spells (on_last (with_hand e) ss)) ∙ ap (λ (l : List Spell). as_noted u (Some a) sits l) (on-last-hand e ss) ∙ h.spell;
    }

  -- it is put in, and accepted
  module _ (noted now : List Spell) (sits sits_now : Bool) (ss : List Stay) (found : Find) (odometer : ℕ) (owed : List Entry) (turned : List Find) (a : Accepted) (X Y : State) (is : a.session.registration ≡ vehicle) (fresh : a.session.odometer ≡ None) (none : a.held.entries ≡ []) (on : OpensOn app vehicle found.second odometer owed X Y)
      (there : sits_now ≡ true) (more : now ≡ noted ++ record { second = found.second; slot = found.slot; withdrawn = None } ∷ []) (h : HasStays u f vehicle noted sits ss None X) where
    abbrev new_stay : Stay
    new_stay = record { found = found; odometer = odometer; owed = owed; by_hand = []; kepts = []; closed = None; turned = turned }

    new-book : made_by size (deeds_of vehicle (is_open_in (shown_by ss).held) (shown_by ss).book new_stay) (shown_by ss).book
        ≡ made_by size (opens (is_open_in (shown_by ss).held) vehicle odometer (lacked (mark_of (shown_by ss).book) owed)) (shown_by ss).book
    new-book = parts new_stay (shown_by ss)

    pub stays-open : HasStays u f vehicle now sits_now (ss ++ new_stay ∷ []) (Some a) Y
    stays-open = record {
      shows = subst (λ (p : Shown). Shows p Y) (sym (behind ss new_stay))
          (subst (λ (c : Book). ShowsBook app c (use_after vehicle new_stay) Y) (sym new-book) (on (shown_by ss).book (shown_by ss).held h.shows));
      goes = record { front = ss; stay = new_stay; are = refl; still = refl; registered = is; odometer = fresh; held = none; free = λ begun. refl };
      spell =
          ap (λ (b : Bool). as_noted u (Some a) b (spells (ss ++ new_stay ∷ []))) there ∙ spells-more ss new_stay
          ∙ ap (λ (l : List Spell). l ++ stay_spell new_stay ∷ []) h.spell ∙ sym more;
    }

  -- it is withdrawn
  module _ (noted : List Spell) (sits sits_now : Bool) (ss : List Stay) (word : Activity) (a : Accepted) (X Y : State) (on : ClosesOn app word X Y) (gone : sits ≡ false) (h : HasStays u f vehicle noted sits ss (Some a) X) where
    abbrev last_stay : Stay
    last_stay = h.goes.stay

    -- in this second, with this word
    abbrev shut : Shut
    shut = record { second = u; word = word }

    abbrev closed_stay : Stay
    closed_stay = with_end shut last_stay

    abbrev earlier : Shown
    earlier = shown_by h.goes.front

    abbrev begun : Book
    begun = made_by size (opens (is_open_in earlier.held) vehicle last_stay.odometer (lacked (mark_of earlier.book) last_stay.owed)) earlier.book

    open-book : made_by size (deeds_of vehicle (is_open_in earlier.held) earlier.book last_stay) earlier.book ≡ made_by size (keeps vehicle None last_stay.by_hand last_stay.kepts) begun
    open-book = parts last_stay earlier ∙ ap (λ (o : Option Shut). made_by size (closes o) (made_by size (keeps vehicle None last_stay.by_hand last_stay.kepts) begun)) h.goes.still

    stood : Shows (after_stay vehicle size last_stay earlier) X
    stood = subst (λ (p : Shown). Shows p X) (ap shown_by h.goes.are ∙ behind h.goes.front last_stay) h.shows

    shut-are : on_last (with_end shut) ss ≡ h.goes.front ++ closed_stay ∷ []
    shut-are = ap (on_last (with_end shut)) h.goes.are ∙ on-last (with_end shut) h.goes.front last_stay

    pub stays-close : HasStays u f vehicle noted sits_now (on_last (with_end shut) ss) None Y
    stays-close = record {
      shows = subst (λ (p : Shown). Shows p Y) (sym (ap shown_by shut-are ∙ behind h.goes.front closed_stay))
          (subst (λ (c : Book). ShowsBook app c (use_after vehicle closed_stay) Y)
          (ap (made_by size (Close word ∷ [])) open-book ∙ sym (parts closed_stay earlier))
          (on (after_stay vehicle size last_stay earlier).book (after_stay vehicle size last_stay earlier).held stood));
      goes = tt;
      spell = on-last-shut shut ss ∙ sym (ap (λ (b : Bool). as_noted u (Some a) b (spells ss)) gone) ∙ h.spell;
    }
