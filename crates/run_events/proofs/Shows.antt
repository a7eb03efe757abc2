-- What every image shows of the events with cards, from before a step to behind it.
use Rattle.std.proofs.Common.{◌≡◌, ◌⊎◌, inl, inr, ℕ, ◌≤◌, Bool, true, false, List, [], ◌++◌, Contains, refl, sym, subst, arith, nat_eq}
use Rattle.std.specs.List.{AllByRecursion}
use Rattle.std.proofs.lemmas.Bool.{eqb-true, eqb-false}
use Rattle.std.proofs.lemmas.List.Elements.{filter-append}
use Rattle.trace_model.specs.declared.Card.{Card}
use Rattle.tach_media.specs.Medium.{State}
use Rattle.log_model.specs.Log.{RunLog}
use Rattle.unit_model.specs.declared.layout.TheConstants.{FIRST_OVER, OVER_COUNT}
use Rattle.unit_model.specs.Image.{number_of}
use Rattle.event_model.specs.declared.kinds.TheConstants.{OVER_SPEEDING}
use Rattle.event_model.specs.Events.{Event}
use Rattle.note_model.specs.Tables.{table_in}
use Rattle.note_model.specs.Unsure.{AreNotedBut, IsFirstBut, IsCountedBut}
use Rattle.unit_events.specs.Noted.{StayFailed}
use Rattle.unit_events.specs.Shown.{all_kinds}
use Rattle.run_events.specs.Shown.{by_kind, none, is_sure_by, none_sure, all_sure, ShowsEvents, ShowsSince, HasNoted, AllLead, AreTheFirst, HasUnsureMore, SaysNothing}
use Rattle.run_events.proofs.Unsure.{fewer-but, more-but, nothing-but-came, between-but, first-fewer, first-then, first-nothing, between-first, count-fewer, count-then, count-nothing, between-count, none-are_sure, fewer-all, fewer-none, fewer-later}

-- a type is another one, or that one
pub kind-or : (kind other : ℕ) → (other ≡ kind) ⊎ (other ≡ kind → ⊥)
kind-or kind other = by (nat_eq other kind) refl
  where
    by : (b : Bool) → nat_eq other kind ≡ b → (other ≡ kind) ⊎ (other ≡ kind → ⊥)
    by true is = inl (eqb-true other kind is)
    by false is = inr (eqb-false other kind is)

pub over-there : Contains all_kinds OVER_SPEEDING
over-there = (5, omega arith, refl)

module _ (number : Card → List ℕ) where
  -- THE SAME EVENTS
  pub shown-as : (sure : Event → Bool) (l m : ℕ → List Event) (x c : List ℕ) → ((kind : ℕ) → Contains all_kinds kind → l kind ≡ m kind) → ShowsEvents number sure x l c → ShowsEvents number sure x m c
  shown-as sure l m x c same shows = record {
    tables = λ kind there. subst (λ (es : List Event). AreNotedBut number sure (table_in kind x) es (table_in kind c)) (same kind there) (shows.tables kind there);
    first = subst (λ (es : List Event). IsFirstBut sure (number_of x FIRST_OVER) es (number_of c FIRST_OVER)) (same OVER_SPEEDING over-there) shows.first;
    count = λ few. subst (λ (es : List Event). IsCountedBut sure (number_of x OVER_COUNT) es (number_of c OVER_COUNT)) (same OVER_SPEEDING over-there) (shows.count few);
  }

  -- FEWER ARE SURE
  pub shown-fewer : (sure later : Event → Bool) (l : ℕ → List Event) (x c : List ℕ) → ((kind : ℕ) → Contains all_kinds kind → AllByRecursion (λ (e : Event). later e ≡ true → sure e ≡ true) (l kind)) → ShowsEvents number sure x l c → ShowsEvents number later x l c
  shown-fewer sure later l x c less shows = record {
    tables = λ kind there. fewer-but number sure later (l kind) (table_in kind x) (table_in kind c) (less kind there) (shows.tables kind there);
    first = first-fewer sure later (l OVER_SPEEDING) (number_of x FIRST_OVER) (number_of c FIRST_OVER) (less OVER_SPEEDING over-there) shows.first;
    count = λ few. count-fewer sure later (l OVER_SPEEDING) (number_of x OVER_COUNT) (number_of c OVER_COUNT) (less OVER_SPEEDING over-there) (shows.count few);
  }

  -- by a later log
  pub shown-later : (log later : RunLog) → StayFailed log later → (l : ℕ → List Event) (x c : List ℕ) → ShowsEvents number (is_sure_by log) x l c → ShowsEvents number (is_sure_by later) x l c
  shown-later log later stay l x c shows = shown-fewer (is_sure_by log) (is_sure_by later) l x c (λ kind there. fewer-later log later stay (l kind)) shows

  -- where all were noted
  pub shown-sure : (sure : Event → Bool) (l : ℕ → List Event) (x c : List ℕ) → ShowsEvents number all_sure x l c → ShowsEvents number sure x l c
  shown-sure sure l x c shows = shown-fewer all_sure sure l x c (λ kind there. fewer-all sure (l kind)) shows

  -- SOME, AND THEN MORE
  pub shown-then : (sure : Event → Bool) (l more : ℕ → List Event) (x y c : List ℕ) → ShowsEvents number sure x l y → ShowsEvents number sure y more c → ShowsEvents number sure x (λ kind. l kind ++ more kind) c
  shown-then sure l more x y c first next = record {
    tables = λ kind there. more-but number sure (l kind) (more kind) (table_in kind x) (table_in kind y) (table_in kind c) (first.tables kind there) (next.tables kind there);
    first = first-then sure (l OVER_SPEEDING) (more OVER_SPEEDING) (number_of x FIRST_OVER) (number_of y FIRST_OVER) (number_of c FIRST_OVER) first.first next.first;
    count = λ few.
        let one = first.count few in
        let most = one.most in
        count-then sure (l OVER_SPEEDING) (more OVER_SPEEDING) (number_of x OVER_COUNT) (number_of y OVER_COUNT) (number_of c OVER_COUNT) one (next.count (omega (arith, most)));
  }

  pub more-then : (sure : Event → Bool) (more rest : List Event) (x y c : List ℕ) → ShowsEvents number sure x (by_kind more) y → ShowsEvents number sure y (by_kind rest) c → ShowsEvents number sure x (by_kind (more ++ rest)) c
  more-then sure more rest x y c first next =
      shown-as sure (λ kind. by_kind more kind ++ by_kind rest kind) (by_kind (more ++ rest)) x c (λ kind there. sym (filter-append (λ (e : Event). nat_eq e.kind kind) more rest))
      (shown-then sure (by_kind more) (by_kind rest) x y c first next)

  -- WITH MORE BETWEEN THEM, of which none is sure
  pub shown-between : (sure : Event → Bool) (l now : ℕ → List Event) (x c : List ℕ) → ((kind : ℕ) → Contains all_kinds kind → HasUnsureMore sure (l kind) (now kind)) → ShowsEvents number sure x l c → ShowsEvents number sure x now c
  shown-between sure l now x c has shows = record {
    tables = λ kind there. between-but number sure (now kind) (l kind) (table_in kind x) (table_in kind c) (has kind there) (shows.tables kind there);
    first = between-first sure (now OVER_SPEEDING) (l OVER_SPEEDING) (number_of x FIRST_OVER) (number_of c FIRST_OVER) (has OVER_SPEEDING over-there) shows.first;
    count = λ few. between-count sure (now OVER_SPEEDING) (l OVER_SPEEDING) (number_of x OVER_COUNT) (number_of c OVER_COUNT) (has OVER_SPEEDING over-there) (shows.count few);
  }

  -- NOTHING MORE
  pub nothing-more : (sure : Event → Bool) (x c : List ℕ) → SaysNothing x c → ShowsEvents number sure x none c
  nothing-more sure x c same =
      let stays = same.over_count in
      record {
        tables = λ kind there. same.tables kind there;
        first = same.first_over;
        count = λ few. count-nothing sure [] (number_of x OVER_COUNT) (number_of c OVER_COUNT) tt few stays;
      }

  -- nothing came, and none of these is sure
  pub nothing-of : (l : ℕ → List Event) (x c : List ℕ) → SaysNothing x c → ShowsEvents number none_sure x l c
  nothing-of l x c same =
      let stays = same.over_count in
      record {
        tables = λ kind there. nothing-but-came number none_sure (l kind) (table_in kind x) (table_in kind c) (none-are_sure (l kind)) (same.tables kind there);
        first = first-nothing none_sure (l OVER_SPEEDING) (number_of x FIRST_OVER) (number_of c FIRST_OVER) (none-are_sure (l OVER_SPEEDING)) same.first_over;
        count = λ few. count-nothing none_sure (l OVER_SPEEDING) (number_of x OVER_COUNT) (number_of c OVER_COUNT) (none-are_sure (l OVER_SPEEDING)) few stays;
      }

  -- a moment has shown some of these, and of the others nothing came
  pub moment-first : (more rest : List Event) (x c : List ℕ) → ShowsEvents number none_sure x (by_kind more) c → ShowsEvents number none_sure x (by_kind (more ++ rest)) c
  moment-first more rest x c first = more-then none_sure more rest x c c first (nothing-of (by_kind rest) c c (record { tables = λ kind there. refl; first_over = refl; over_count = refl }))

  -- or they were noted, and it has shown some of the others
  pub moment-then : (more rest : List Event) (x y c : List ℕ) → ShowsEvents number all_sure x (by_kind more) y → ShowsEvents number none_sure y (by_kind rest) c → ShowsEvents number none_sure x (by_kind (more ++ rest)) c
  moment-then more rest x y c first next = more-then none_sure more rest x y c (shown-sure none_sure (by_kind more) x y first) next

  -- WHAT A FAILED CALL HAS LEFT of a second, of whose events none is sure
  pub shown-left : (sure : Event → Bool) (some all : ℕ → List Event) (x c : List ℕ) → AreTheFirst some all → ((kind : ℕ) → Contains all_kinds kind → AllByRecursion (λ (e : Event). sure e ≡ false) (all kind)) → ShowsEvents number none_sure x some c → ShowsEvents number sure x all c
  shown-left sure some all x c are unsure shows =
      let whole : ShowsEvents number none_sure x all c = record {
        tables = λ kind there.
            let rest = are kind there in
            subst (λ (es : List Event). AreNotedBut number none_sure (table_in kind x) es (table_in kind c)) (sym rest.1)
            (more-but number none_sure (some kind) rest.0 (table_in kind x) (table_in kind c) (table_in kind c) (shows.tables kind there)
            (nothing-but-came number none_sure rest.0 (table_in kind c) (table_in kind c) (none-are_sure rest.0) refl));
        first =
            let rest = are OVER_SPEEDING over-there in
            subst (λ (es : List Event). IsFirstBut none_sure (number_of x FIRST_OVER) es (number_of c FIRST_OVER)) (sym rest.1)
            (first-then none_sure (some OVER_SPEEDING) rest.0 (number_of x FIRST_OVER) (number_of c FIRST_OVER) (number_of c FIRST_OVER) shows.first
            (first-nothing none_sure rest.0 (number_of c FIRST_OVER) (number_of c FIRST_OVER) (none-are_sure rest.0) refl));
        count = λ few.
            let rest = are OVER_SPEEDING over-there in
            let one = shows.count few in
            let most = one.most in
            subst (λ (es : List Event). IsCountedBut none_sure (number_of x OVER_COUNT) es (number_of c OVER_COUNT)) (sym rest.1)
            (count-then none_sure (some OVER_SPEEDING) rest.0 (number_of x OVER_COUNT) (number_of c OVER_COUNT) (number_of c OVER_COUNT) one
            (count-nothing none_sure rest.0 (number_of c OVER_COUNT) (number_of c OVER_COUNT) (none-are_sure rest.0) (omega (arith, most)) refl));
      } in
      shown-fewer none_sure sure all x c (λ kind there. fewer-none sure (all kind) (unsure kind there)) whole

  -- AN IMAGE behind a step
  pub shows-then : (start x c : List ℕ) (log later : RunLog) (l more now : ℕ → List Event) → ShowsEvents number (is_sure_by log) start l x → StayFailed log later → AllLead (is_sure_by later) l more now → ShowsEvents number (is_sure_by later) x more c → ShowsEvents number (is_sure_by later) start now c
  shows-then start x c log later l more now shows stay lead goes =
      shown-between (is_sure_by later) (λ kind. l kind ++ more kind) now start c lead (shown-then (is_sure_by later) l more start x c (shown-later log later stay l start x shows) goes)

  -- EVERY IMAGE that a stop may leave
  pub noted-then : (start : List ℕ) (log later : RunLog) (l more now : ℕ → List Event) {U V : State} → HasNoted number start log l U → StayFailed log later → AllLead (is_sure_by later) l more now →
      ((c : List ℕ) → V.may_leave c → (x : List ℕ) × U.may_leave x × ShowsEvents number (is_sure_by later) x more c) → HasNoted number start later now V
  noted-then start log later l more now h stay lead before = record {
    shows = λ c left.
        let here = before c left in
        let was = h.shows here.0 here.1 in
        record { events = shows-then start here.0 c log later l more now was.events stay lead here.2; few = was.few };
  }

  -- at the start
  pub noted-begins : (start : List ℕ) (log : RunLog) {U : State} → ((x : List ℕ) → U.may_leave x → x ≡ start) → number_of start OVER_COUNT ≤ 255 → HasNoted number start log none U
  noted-begins start log {U} only few = record {
    shows = λ x left. subst (ShowsSince number log start none) (sym (only x left))
        (record { events = nothing-more (is_sure_by log) start start (record { tables = λ kind there. refl; first_over = refl; over_count = refl }); few = few });
  }
