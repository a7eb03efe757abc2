-- The cards at the first and at the last second of a run, as more seconds come.
use Rattle.std.proofs.Common.{◌≡◌, ◌∙◌, ◌⊎◌, inl, inr, ℕ, zero, suc, ◌+◌, ◌<◌, Bool, true, false, cond, Option, Some, List, [], ◌∷◌, ◌++◌, map, fold, refl, ap, sym, arith}
use Rattle.std.specs.Prelude.{option_map, unwrap_or}
use Rattle.std.specs.List.{AllByRecursion}
use Rattle.std.proofs.lemmas.List.Sums.{fold-append}
use Rattle.event_model.specs.declared.entries.Over.{Over}
use Rattle.event_model.specs.declared.entries.Span.{Span}
use Rattle.event_model.specs.Runs.{run_with, last_run}
use Rattle.event_model.specs.Spans.{DriverSecond, bare_of, over_of, in_a_row}
use Rattle.run_crew.specs.declared.cards.Crew.{Crew}
use Rattle.run_events.specs.Watching.{CrewSecond, seconds_with, is_bare, driver_second, speed_second, nobody, first_crew, last_crew, BareWith, OverWith, bare_with, over_with}

-- ---- lists that are turned

-- the last run of what is turned is that run turned
pub last_turned : {S T : Type 0} (f : S → T) (p : T → Bool) (run xs : List S) → fold (run_with p) (map f run) (map f xs) ≡ map f (fold (run_with (λ s. p (f s))) run xs)
last_turned f p run [] = refl
last_turned {S} {T} f p run (x ∷ xs) = by (λ r. last_turned f p r xs) (p (f x)) refl
  where
    more : (run : List S) → map f run ++ f x ∷ [] ≡ map f (run ++ x ∷ [])
    more [] = refl
    more (y ∷ ys) = ap (λ (l : List T). f y ∷ l) (more ys)

    by : ((r : List S) → fold (run_with p) (map f r) (map f xs) ≡ map f (fold (run_with (λ s. p (f s))) r xs))
        → (b : Bool) → p (f x) ≡ b → fold (run_with p) (run_with p (map f run) (f x)) (map f xs) ≡ map f (fold (run_with (λ s. p (f s))) (run_with (λ s. p (f s)) run x) xs)
    by rest true is =
        ap (λ (b : Bool). fold (run_with p) (cond b (map f run ++ f x ∷ []) []) (map f xs)) is
        ∙ ap (λ (l : List T). fold (run_with p) l (map f xs)) (more run)
        ∙ rest (run ++ x ∷ [])
        ∙ sym (ap (λ (b : Bool). map f (fold (run_with (λ s. p (f s))) (cond b (run ++ x ∷ []) []) xs)) is)
    by rest false is =
        ap (λ (b : Bool). fold (run_with p) (cond b (map f run ++ f x ∷ []) []) (map f xs)) is
        ∙ rest []
        ∙ sym (ap (λ (b : Bool). map f (fold (run_with (λ s. p (f s))) (cond b (run ++ x ∷ []) []) xs)) is)

pub bare_turned : (ss : List CrewSecond) → last_run (λ (s : DriverSecond). s.bare) (map driver_second ss) ≡ map driver_second (last_run is_bare ss)
bare_turned ss = last_turned driver_second (λ (s : DriverSecond). s.bare) [] ss

pub row_turned : {S T : Type 0} (f : S → T) (one : ℕ → S) (number n : ℕ) → map f (in_a_row one number n) ≡ in_a_row (λ k. f (one k)) number n
row_turned f one number zero = refl
row_turned {S} {T} f one number (suc n) = ap (λ (l : List T). f (one number) ∷ l) (row_turned f one (number + 1) n)

-- each second is turned
pub each_turned : {S T : Type 0} (f : S → T) (P : S → Type 0) (Q : T → Type 0) → ((s : S) → P s → Q (f s)) → (xs : List S) → AllByRecursion P xs → AllByRecursion Q (map f xs)
each_turned f P Q on [] h = tt
each_turned f P Q on (x ∷ xs) h = (on x h.0, each_turned f P Q on xs h.1)

-- ---- the cards

-- of a row: those of each of its seconds
last_row : (l crew : Crew) (number n speed : ℕ) → fold (λ (last : Crew) (s : CrewSecond). s.crew) l (seconds_with number (suc n) speed crew) ≡ crew
last_row l crew number zero speed = refl
last_row l crew number (suc n) speed = last_row crew crew (number + 1) n speed

pub last_with : (ss : List CrewSecond) (crew : Crew) (number n speed : ℕ) → 0 < n → last_crew (ss ++ seconds_with number n speed crew) ≡ crew
last_with ss crew number n speed some = go n refl
  where
    go : (m : ℕ) → m ≡ n → last_crew (ss ++ seconds_with number n speed crew) ≡ crew
    go zero is = absurd (omega (arith, some, is))
    go (suc m) is =
        ap (λ (k : ℕ). last_crew (ss ++ seconds_with number k speed crew)) (sym is)
        ∙ fold-append (λ (last : Crew) (s : CrewSecond). s.crew) nobody ss (seconds_with number (suc m) speed crew)
        ∙ last_row (last_crew ss) crew number m speed

pub first_with : (run : List CrewSecond) (crew : Crew) (number n speed : ℕ) (begin : Option Crew) → 0 < n → begin ≡ first_crew run
    → Some (unwrap_or begin crew) ≡ first_crew (run ++ seconds_with number n speed crew)
first_with run crew number n speed begin some is = ap (λ (o : Option Crew). Some (unwrap_or o crew)) is ∙ go run n refl
  where
    go : (r : List CrewSecond) (m : ℕ) → m ≡ n → Some (unwrap_or (first_crew r) crew) ≡ first_crew (r ++ seconds_with number n speed crew)
    go (s ∷ r) m same = refl
    go [] zero same = absurd (omega (arith, some, same))
    go [] (suc m) same = ap (λ (k : ℕ). first_crew (seconds_with number k speed crew)) same

-- the last second of a run that goes on is the last of all
last_goes : (p : CrewSecond → Bool) (run xs : List CrewSecond) (l : Crew) → (run ≡ []) ⊎ (last_crew run ≡ l)
    → (fold (run_with p) run xs ≡ []) ⊎ (last_crew (fold (run_with p) run xs) ≡ fold (λ (last : Crew) (s : CrewSecond). s.crew) l xs)
last_goes p run [] l h = h
last_goes p run (x ∷ xs) l h = last_goes p (run_with p run x) xs x.crew (by (p x))
  where
    by : (b : Bool) → (cond b (run ++ x ∷ []) [] ≡ []) ⊎ (last_crew (cond b (run ++ x ∷ []) []) ≡ x.crew)
    by true = inr (fold-append (λ (last : Crew) (s : CrewSecond). s.crew) nobody run (x ∷ []))
    by false = inl refl

pub last_of_run : (p : CrewSecond → Bool) (ss : List CrewSecond) → (last_run p ss ≡ []) ⊎ (last_crew (last_run p ss) ≡ last_crew ss)
last_of_run p ss = last_goes p [] ss nobody (inl refl)

-- ---- what a run is with its cards

pub bare_is : (run : List CrewSecond) (begin end : Crew) → ((crew : Crew) → first_crew run ≡ Some crew → begin ≡ crew) → (run ≡ []) ⊎ (last_crew run ≡ end)
    → bare_with run ≡ option_map {T = Span} {U = BareWith} (λ span. record { span = span; begin = begin; end = end }) (bare_of (map driver_second run))
bare_is [] begin end first last = refl
bare_is (s ∷ run) begin end first last = by last
  where
    by : (s ∷ run ≡ []) ⊎ (last_crew (s ∷ run) ≡ end)
        → bare_with (s ∷ run) ≡ option_map {T = Span} {U = BareWith} (λ span. record { span = span; begin = begin; end = end }) (bare_of (map driver_second (s ∷ run)))
    by (inl none) = absurd (cc)
    by (inr is) =
        ap (λ (e : Crew). option_map {T = Span} {U = BareWith} (λ span. record { span = span; begin = s.crew; end = e }) (bare_of (map driver_second (s ∷ run)))) is
        ∙ ap (λ (b : Crew). option_map {T = Span} {U = BareWith} (λ span. record { span = span; begin = b; end = end }) (bare_of (map driver_second (s ∷ run)))) (sym (first s.crew refl))

pub over_is : (run : List CrewSecond) (begin end : Crew) → ((crew : Crew) → first_crew run ≡ Some crew → begin ≡ crew) → (run ≡ []) ⊎ (last_crew run ≡ end)
    → over_with run ≡ option_map {T = Over} {U = OverWith} (λ over. record { over = over; begin = begin; end = end }) (over_of (map speed_second run))
over_is [] begin end first last = refl
over_is (s ∷ run) begin end first last = by last
  where
    by : (s ∷ run ≡ []) ⊎ (last_crew (s ∷ run) ≡ end)
        → over_with (s ∷ run) ≡ option_map {T = Over} {U = OverWith} (λ over. record { over = over; begin = begin; end = end }) (over_of (map speed_second (s ∷ run)))
    by (inl none) = absurd (cc)
    by (inr is) =
        ap (λ (e : Crew). option_map {T = Over} {U = OverWith} (λ over. record { over = over; begin = s.crew; end = e }) (over_of (map speed_second (s ∷ run)))) is
        ∙ ap (λ (b : Crew). option_map {T = Over} {U = OverWith} (λ over. record { over = over; begin = b; end = end }) (over_of (map speed_second (s ∷ run)))) (sym (first s.crew refl))
