-- How a run of device calls goes on.
use Rattle.std.proofs.Common.{true, sym, ◌≡◌, inl, inr, ⊎_elim, ℕ, Bool, false, List, length, Option, Some, None, is_some, option_map, IfSome, refl, ◌∙◌, ap, subst, arith}
use Rattle.std.specs.Prelude.{◌+◌, ◌<◌, ◌≤◌, ◌⊎◌, Result, Ok, Err, IfOk, IsErrAnd, OnOk, is_err}
use Rattle.std.proofs.lemmas.Bool.{cases_lt}
use Rattle.card_layout.specs.Fields.{IsBytes}
use Rattle.tach_media.specs.Medium.{State, IsCoherent, LeavesOnly, Reads, Writes, Alters, StaysSettled, KeepsBroken, HasCause, IsSettled, Unchanged, Rose, last_count, most_writes, put, IsPartlyWritten, HoldsBytes}

-- no call yet
pub starts : (s : State) (R : List ℕ → List ℕ → Type 0) → LeavesOnly s s R
starts s R = record { size = refl; behind = refl; writable = refl; layers = refl; tells = refl; later = omega arith; since = λ t c le left. inl left; now = λ c left. inl left; keeps = λ t c le left. left }

-- a run, said more weakly
pub weaken : {old new : State} {R S : List ℕ → List ℕ → Type 0} → LeavesOnly old new S → ((x c : List ℕ) → old.image ≡ Some x → S x c → R x c) → LeavesOnly old new R
weaken {old} {new} {R} {S} run weaker = record {
  size = run.size;
  behind = run.behind;
  writable = run.writable;
  layers = run.layers;
  tells = run.tells;
  later = run.later;
  since = λ t c le left. ⊎_elim inl (λ here. inr (relate c here)) (run.since t c le left);
  now = λ c left. ⊎_elim inl (λ here. inr (relate c here)) (run.now c left);
  keeps = run.keeps;
}
  where
    relate : (c : List ℕ) → ((x : List ℕ) × (old.image ≡ Some x) × S x c) → ((x : List ℕ) × (old.image ≡ Some x) × R x c)
    relate c here = (here.0, here.1, weaker here.0 c here.1 here.2)

-- one where an option with an equal test has one
pub told_too : (o p : Option (List ℕ)) (y : List ℕ) → is_some o ≡ is_some p → o ≡ Some y → (x : List ℕ) × (p ≡ Some x)
told_too o (Some x) y same is = (x, refl)
told_too o None y same is = absurd (grind (arith, same, ap is_some is))

-- reads alone, which leave no image that was not left before
pub from_reads : {old new : State} {R : List ℕ → List ℕ → Type 0} → LeavesOnly old new Unchanged → LeavesOnly old new R
from_reads run = weaken run (λ x c was none. absurd none)

-- A run goes on with another, whose images are so related to the one before the first.
pub goes_on : {old mid new : State} {R S : List ℕ → List ℕ → Type 0} → LeavesOnly old mid R → LeavesOnly mid new S
    → ((x y c : List ℕ) → old.image ≡ Some x → mid.image ≡ Some y → S y c → R x c) → LeavesOnly old new R
goes_on {old} {mid} {new} {R} {S} first next weaker = record {
  size = next.size ∙ first.size;
  behind = next.behind ∙ first.behind;
  writable = next.writable ∙ first.writable;
  layers = next.layers ∙ first.layers;
  tells = next.tells ∙ first.tells;
  later = omega (arith, first.later, next.later);
  since = λ t c le left. ⊎_elim (first.since t c le) (λ here. inr (relate c here)) (next.since t c (omega (arith, le, first.later)) left);
  now = λ c left. ⊎_elim (first.now c) (λ here. inr (relate c here)) (next.now c left);
  keeps = λ t c le left. next.keeps t c (omega (arith, le, first.later)) (first.keeps t c le left);
}
  where
    relate : (c : List ℕ) → ((y : List ℕ) × (mid.image ≡ Some y) × S y c) → ((x : List ℕ) × (old.image ≡ Some x) × R x c)
    relate c here =
        let before = told_too mid.image old.image here.0 first.tells here.1 in
        (before.0, before.1, weaker before.0 here.0 c before.1 here.1 here.2)

-- the same where the first run turned the image into one that is known
pub goes_by : {old mid new : State} {R S : List ℕ → List ℕ → Type 0} (f : List ℕ → List ℕ) → LeavesOnly old mid R → mid.image ≡ option_map f old.image → LeavesOnly mid new S
    → ((x c : List ℕ) → old.image ≡ Some x → S (f x) c → R x c) → LeavesOnly old new R
goes_by {old} {mid} {new} {R} {S} f first known next weaker = goes_on first next (λ x y c was is here. weaker x c was (subst (λ (l : List ℕ). S l c) (turned x y was is) here))
  where
    turned : (x y : List ℕ) → old.image ≡ Some x → mid.image ≡ Some y → y ≡ f x
    turned x y was is = let made : mid.image ≡ Some (f x) = known ∙ ap (option_map f) was in cc

-- a run that adds no image
pub goes_same : {old mid new : State} {R : List ℕ → List ℕ → Type 0} → LeavesOnly old mid R → LeavesOnly mid new Unchanged → LeavesOnly old new R
goes_same first next = goes_on first next (λ x y c was is none. absurd none)

-- reads before a run
pub after_reads : {old mid new : State} {R : List ℕ → List ℕ → Type 0} → LeavesOnly old mid Unchanged → mid.image ≡ old.image → LeavesOnly mid new R → LeavesOnly old new R
after_reads {old} {mid} {new} {R} first same next = goes_on (weaken first (λ x c was none. absurd none)) next (λ x y c was is here. subst (λ (l : List ℕ). R l c) (one x y was is) here)
  where
    one : (x y : List ℕ) → old.image ≡ Some x → mid.image ≡ Some y → y ≡ x
    one x y was is = cc

-- the image after two runs that turned it into known ones
pub image_then : (o p q : Option (List ℕ)) (f h : List ℕ → List ℕ) → p ≡ option_map f o → q ≡ option_map h p → q ≡ option_map (λ x. h (f x)) o
image_then o p q f h first next = next ∙ ap (option_map h) first ∙ twice o
  where
    twice : (o : Option (List ℕ)) → option_map h (option_map f o) ≡ option_map (λ x. h (f x)) o
    twice None = refl
    twice (Some x) = refl

-- what is told of earlier breakdowns stays, of no call and from run to run
pub broken_same : (s : State) → KeepsBroken s s
broken_same s = record { later = omega arith; told = λ t n low told. told }

pub broken_then : {old mid new : State} → KeepsBroken old mid → KeepsBroken mid new → KeepsBroken old new
broken_then first next = record {
  later = omega (arith, first.later, next.later);
  told = λ t n low told. first.told t n low (next.told t n (omega (arith, low, first.later)) told);
}

-- the cause of an answer after a run that answered Ok
pub cause_after : {old mid new : State} {failed : Bool} → HasCause old mid false → HasCause mid new failed → HasCause old new failed
cause_after {old} {mid} {new} {failed} first next = record {
  works = next.works;
  broken = λ was. absurd (grind (arith, first.broken was));
  faults = omega (arith, first.faults, next.faults);
  fault = λ f. omega (arith, first.faults, next.fault f);
  breakdowns = omega (arith, first.breakdowns, next.breakdowns);
  breaks = λ was f. rw (← first.unbroken refl) (next.breaks first.works f);
  unbroken = λ f. next.unbroken f ∙ first.unbroken refl;
  already = λ was. absurd (grind (arith, first.broken was));
  once = λ low. let few = next.once low in let same = first.unbroken refl in omega (arith, few, same);
  tells = broken_then first.tells next.tells;
}

-- what is said of a told image
pub at_image : {o : Option (List ℕ)} (P : List ℕ → Type 0) {x : List ℕ} → o ≡ Some x → IfSome o P → P x
at_image {o} P {x} is said = subst (λ (p : Option (List ℕ)). IfSome p P) is said

-- what holds of the images before and after where they are told
pub where_told : (o p : Option (List ℕ)) (R : List ℕ → List ℕ → Type 0) → ((x y : List ℕ) → o ≡ Some x → p ≡ Some y → R x y) → IfSome o (λ x. IfSome p (R x))
where_told None p R all = tt
where_told (Some x) None R all = tt
where_told (Some x) (Some y) R all = all x y refl refl

-- the image that a run turned into a known one
pub turned_into : {o p : Option (List ℕ)} (f : List ℕ → List ℕ) {x y : List ℕ} → p ≡ option_map f o → o ≡ Some x → p ≡ Some y → y ≡ f x
turned_into {o} {p} f {x} {y} known was is = let made : p ≡ Some (f x) = known ∙ ap (option_map f) was in cc

-- what holds of an image that is told, since it is of bytes
pub bytes_told : (s : State) (P Q : List ℕ → Type 0) → HoldsBytes s → ((x : List ℕ) → IsBytes x → P x → Q x) → IfSome s.image P → IfSome s.image Q
bytes_told s P Q holds so said = by s.image refl said
  where
    by : (o : Option (List ℕ)) → s.image ≡ o → IfSome o P → IfSome o Q
    by None is said = tt
    by (Some x) is said = so x (holds.told x is) said

-- what holds of an image that is told
pub if_told : (o : Option (List ℕ)) (P : List ℕ → Type 0) → ((x : List ℕ) → o ≡ Some x → P x) → IfSome o P
if_told None P holds = tt
if_told (Some x) P holds = holds x refl

-- from two facts of a told image to a third
pub both_told : (o : Option (List ℕ)) {A B : List ℕ → Type 0} (C : List ℕ → Type 0) → IfSome o A → IfSome o B → ((x : List ℕ) → o ≡ Some x → A x → B x → C x) → IfSome o C
both_told None C a b all = tt
both_told (Some x) C a b all = all x refl a b

-- from what is said of a told image
pub from_told : (o : Option (List ℕ)) (A B : List ℕ → Type 0) → IfSome o A → ((x : List ℕ) → o ≡ Some x → A x → B x) → IfSome o B
from_told None A B a all = tt
from_told (Some x) A B a all = all x refl a

-- what two runs make of an image that is told
pub through : (o m n : Option (List ℕ)) (R S T : List ℕ → List ℕ → Type 0) → is_some m ≡ is_some o → IfSome o (λ x. IfSome m (R x)) → IfSome m (λ y. IfSome n (S y))
    → ((x y z : List ℕ) → o ≡ Some x → R x y → S y z → T x z) → IfSome o (λ x. IfSome n (T x))
through None m n R S T same first next all = tt
through (Some x) None n R S T same first next all = absurd (cc)
through (Some x) (Some y) None R S T same first next all = tt
through (Some x) (Some y) (Some z) R S T same first next all = all x y z refl first next

-- the same, where the image between is told too
pub through_both : (o m n : Option (List ℕ)) (R S T : List ℕ → List ℕ → Type 0) → is_some m ≡ is_some o → IfSome o (λ x. IfSome m (R x)) → IfSome m (λ y. IfSome n (S y))
    → ((x y z : List ℕ) → o ≡ Some x → m ≡ Some y → R x y → S y z → T x z) → IfSome o (λ x. IfSome n (T x))
through_both None m n R S T same first next all = tt
through_both (Some x) None n R S T same first next all = absurd (cc)
through_both (Some x) (Some y) None R S T same first next all = tt
through_both (Some x) (Some y) (Some z) R S T same first next all = all x y z refl refl first next

-- from two facts of an Ok to a third
pub ok_both : {T E : Type 0} (r : Result T E) (A B C : T → Type 0) → IfOk r A → IfOk r B → ((v : T) → A v → B v → C v) → IfOk r C
ok_both (Ok v) A B C a b all = all v a b
ok_both (Err e) A B C a b all = tt

-- an error that `?` passed on
pub err_is : {T E : Type 0} (r : Result T E) (e : E) → IsErrAnd r (λ v. v ≡ e) → r ≡ Err e
err_is (Ok v) e is = absurd is
err_is (Err f) e is = ap Err is

-- the image after two runs, by what the two do to a told image
pub image_both : (o p q : Option (List ℕ)) (f h k : List ℕ → List ℕ) → p ≡ option_map f o → q ≡ option_map h p → ((x : List ℕ) → o ≡ Some x → h (f x) ≡ k x) → q ≡ option_map k o
image_both None p q f h k first next same = next ∙ ap (option_map h) first
image_both (Some x) p q f h k first next same = next ∙ ap (option_map h) first ∙ ap Some (same x refl)

-- reads go on with reads
pub reads_then : {old mid new : State} {failed : Bool} → Reads old mid false → Reads mid new failed → Reads old new failed
reads_then first next = record { same = λ fine. next.same fine ∙ first.same refl; leaves = goes_same first.leaves next.leaves; clock = next.clock ∙ first.clock; cause = cause_after first.cause next.cause }

-- a `revive` leaves one of the images that a stop might have left before
pub revived : {old new : State} → IsCoherent new → LeavesOnly old new Unchanged → (x : List ℕ) → new.image ≡ Some x → old.may_leave x
revived {old} {new} whole run x is = ⊎_elim (λ was. was) (λ none. absurd none.2) (run.now x (whole.is_left x is))

-- no read yet, on a medium that works
pub no_reads : (s : State) → s.works ≡ true → Reads s s false
no_reads s works = record {
  same = λ fine. refl;
  leaves = starts s Unchanged;
  clock = refl;
  cause = record { works = works; broken = λ was. sym was ∙ works; faults = omega arith; fault = λ f. absurd (cc); breakdowns = omega arith; breaks = λ was f. absurd (cc); unbroken = λ f. refl; already = λ was. refl; once = λ low. omega arith; tells = broken_same s };
}

-- reads leave settled what was
pub still_settled : {old new : State} → Reads old new false → IsSettled old → IsSettled new
still_settled {old} {new} reads settled c left =
    let was : old.left_since old.clock c = ⊎_elim (λ l. l) (λ none. absurd none.2) (reads.leaves.since old.clock c (omega arith) (subst (λ (t : ℕ). new.left_since t c) reads.clock left)) in
    reads.same refl ∙ settled c was

-- no call yet, nothing settled is unsettled
pub settled_none : (s : State) → StaysSettled s s
settled_none s before known = ⊎_elim (λ wrote. absurd (omega (arith, wrote))) (λ is. is) before

-- what one run and then another leaves settled, the two leave settled
pub settled_then : (old mid new : State) → mid.clock ≤ new.clock → StaysSettled old mid → StaysSettled mid new → StaysSettled old new
settled_then old mid new le first next before known = ⊎_elim
    (λ more. next (inl more) known)
    (λ none. next (inr (first (wrote none before) (omega (arith, le, known)))) known)
    (cases_lt mid.clock new.clock)
  where
    wrote : new.clock ≤ mid.clock → (old.clock < new.clock) ⊎ IsSettled old → (old.clock < mid.clock) ⊎ IsSettled old
    wrote none (inl more) = inl (omega (arith, none, more))
    wrote none (inr is) = inr is

-- no write yet, on a medium that works
pub no_writes : (s : State) (R : List ℕ → List ℕ → Type 0) → s.works ≡ true → Writes s s false 0 0 (λ x. x) R
no_writes s R works = record {
  written = λ fine. same s.image;
  leaves = starts s R;
  settled = λ fine. settled_none s;
  begun = λ fine. omega arith;
  clock = omega arith;
  cause = (no_reads s works).cause;
}
  where
    same : (o : Option (List ℕ)) → o ≡ option_map (λ x. x) o
    same None = refl
    same (Some x) = refl

-- Writes go on with writes: `T` is what is left of both.
pub writes_then : {old mid new : State} {failed : Bool} {l m l' m' : ℕ} {f h : List ℕ → List ℕ} {R S : List ℕ → List ℕ → Type 0} (T : List ℕ → List ℕ → Type 0)
    → Writes old mid false l m f R → Writes mid new failed l' m' h S
    → ((x c : List ℕ) → old.image ≡ Some x → R x c → T x c) → ((x c : List ℕ) → old.image ≡ Some x → S (f x) c → T x c) → Writes old new failed (l + l') (m + m') (λ x. h (f x)) T
writes_then {old} {mid} {new} {failed} {l} {m} {l'} {m'} {f} {h} {R} {S} T first next before behind = record {
  written = λ fine. image_then old.image mid.image new.image f h (first.written refl) (next.written fine);
  leaves = goes_by f (weaken first.leaves before) (first.written refl) next.leaves behind;
  settled = λ fine. settled_then old mid new next.leaves.later (first.settled refl) (next.settled fine);
  begun = λ fine. omega (arith, first.begun refl, next.begun fine);
  clock = omega (arith, first.clock, next.clock);
  cause = cause_after first.cause next.cause;
}

-- reads before writes, and behind them
pub reads_writes : {old mid new : State} {failed : Bool} {l m : ℕ} {f : List ℕ → List ℕ} {R : List ℕ → List ℕ → Type 0} → Reads old mid false → Writes mid new failed l m f R → Writes old new failed l m f R
reads_writes {old} {mid} {new} {failed} {l} {m} {f} {R} first next = record {
  written = λ fine. next.written fine ∙ ap (option_map f) (first.same refl);
  leaves = after_reads first.leaves (first.same refl) next.leaves;
  settled = λ fine. settled_then old mid new next.leaves.later (λ was known. ⊎_elim (λ more. absurd (omega (arith, more, first.clock))) (λ is. still_settled first is) was) (next.settled fine);
  begun = λ fine. omega (arith, first.clock, next.begun fine);
  clock = omega (arith, first.clock, next.clock);
  cause = cause_after first.cause next.cause;
}

-- the same said more weakly: other names of what is written, more moments, and a wider count
pub writes_as : {old new : State} {failed : Bool} {l m l' m' : ℕ} {f h : List ℕ → List ℕ} {R T : List ℕ → List ℕ → Type 0} → Writes old new failed l m f R
    → l' ≤ l → m ≤ m' → ((x : List ℕ) → f x ≡ h x) → ((x c : List ℕ) → old.image ≡ Some x → R x c → T x c) → Writes old new failed l' m' h T
writes_as {old} {new} {failed} {l} {m} {l'} {m'} {f} {h} {R} {T} run low high same weaker = record {
  written = λ fine. run.written fine ∙ named old.image;
  leaves = weaken run.leaves weaker;
  settled = run.settled;
  begun = λ fine. omega (arith, low, run.begun fine);
  clock = omega (arith, high, run.clock);
  cause = run.cause;
}
  where
    named : (o : Option (List ℕ)) → option_map f o ≡ option_map h o
    named None = refl
    named (Some x) = ap Some (same x)

-- a run of writes of which one failed, among more
pub writes_failed : {old new : State} {l m l' m' : ℕ} {f h : List ℕ → List ℕ} {R T : List ℕ → List ℕ → Type 0} → Writes old new true l m f R
    → m ≤ m' → ((x c : List ℕ) → old.image ≡ Some x → R x c → T x c) → Writes old new true l' m' h T
writes_failed run high weaker = record {
  written = λ fine. absurd (cc);
  leaves = weaken run.leaves weaker;
  settled = λ fine. absurd (cc);
  begun = λ fine. absurd (cc);
  clock = omega (arith, high, run.clock);
  cause = run.cause;
}

-- where a write was begun, it is settled after Ok
pub settled_now : {old new : State} {failed : Bool} {l m : ℕ} {f : List ℕ → List ℕ} {R : List ℕ → List ℕ → Type 0} → Writes old new failed l m f R → failed ≡ false → 0 < l → new.clock < last_count → IsSettled new
settled_now run fine some known = run.settled fine (inl (omega (arith, run.begun fine, some, known))) known

-- one write that ended, and one that failed
pub one_written : {old new : State} {place : ℕ} {bytes : List ℕ} → 0 < length bytes → length bytes ≤ 255
    → new.image ≡ option_map (put place bytes) old.image → LeavesOnly old new (IsPartlyWritten place bytes)
    → (0 < length bytes → new.clock < last_count → IsSettled new) → (0 < length bytes → Rose old.clock new.clock)
    → new.clock ≤ old.clock + most_writes (length bytes) → HasCause old new false → Writes old new false 1 1 (put place bytes) (IsPartlyWritten place bytes)
one_written {old} {new} {place} {bytes} some short written leaves settled clock few cause = record {
  written = λ fine. written;
  leaves = leaves;
  settled = λ fine was known. settled some known;
  begun = λ fine. clock some;
  clock = omega (arith, few, short);
  cause = cause;
}

pub one_failed : {old new : State} {place : ℕ} {bytes : List ℕ} → length bytes ≤ 255
    → LeavesOnly old new (IsPartlyWritten place bytes) → new.clock ≤ old.clock + most_writes (length bytes) → HasCause old new true → Writes old new true 1 1 (put place bytes) (IsPartlyWritten place bytes)
one_failed {old} {new} {place} {bytes} short leaves few cause = record {
  written = λ fine. absurd (cc);
  leaves = leaves;
  settled = λ fine. absurd (cc);
  begun = λ fine. absurd (cc);
  clock = omega (arith, few, short);
  cause = cause;
}

-- what holds of an answer that did not fail, and what a clause on Ok says of one
pub on_ok : {A E P : Type 0} (r : Result A E) → (is_err r ≡ false → P) → OnOk r P
on_ok (Ok a) f = f refl
on_ok (Err e) f = tt

pub ok_gives : {A E P : Type 0} (r : Result A E) → OnOk r P → is_err r ≡ false → P
ok_gives (Ok a) said fine = said
ok_gives (Err e) said fine = absurd (cc)

-- what a call does that alters the image, said of another answer that fails where this one does
pub alters_as : {T E T' E' : Type 0} {r : Result T E} {old new : State} {n : ℕ} {S R : List ℕ → List ℕ → Type 0} (q : Result T' E') → is_err q ≡ is_err r → Alters r old new n S R → Alters q old new n S R
alters_as {T} {E} {T'} {E'} {r} {old} {new} {n} {S} {R} q same does = record {
  done = on_ok q (λ fine. ok_gives r does.done (sym same ∙ fine));
  moments = does.moments;
  settled = on_ok q (λ fine. ok_gives r does.settled (sym same ∙ fine));
  cause = subst (HasCause old new) (sym same) does.cause;
  most = does.most;
}

-- what a call does that failed
pub alters_failed : {T E : Type 0} {old new : State} {n : ℕ} {S R : List ℕ → List ℕ → Type 0} (q : Result T E) → is_err q ≡ true → LeavesOnly old new R → HasCause old new true → new.clock ≤ old.clock + n → Alters q old new n S R
alters_failed {T} {E} {old} {new} {n} {S} {R} q failed moments cause most = record {
  done = on_ok q (λ fine. absurd (let bad : true ≡ false = sym failed ∙ fine in cc));
  moments = moments;
  settled = on_ok q (λ fine. absurd (let bad : true ≡ false = sym failed ∙ fine in cc));
  cause = subst (HasCause old new) (sym failed) cause;
  most = most;
}
