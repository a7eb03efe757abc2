-- What printing left in the sink, clause by clause.
use Rattle.std.proofs.Common.{◌≡◌, ◌⊎◌, ◌≤◌, ℕ, List, Option, inl, inr, refl, subst, arith}
use Rattle.std.specs.Prelude.{Result, Ok, Err, OnOk, IfErr}
use Rattle.std.specs.Io.KnownBytes.{Appends}
use Rattle.tach_media.specs.Medium.{Rose}
use Rattle.tach_media.specs.Streams.{AppendsFront}
use Rattle.tacho.specs.declared.end.Fault.{Fault}
use Rattle.tacho.specs.declared.end.Fault.TheVariants.{Done, TooLong, ReadFault, WriteFault, Memory, BadFile}
use Rattle.tacho.specs.declared.forms.Reading.{Reading}
use Rattle.tacho.specs.declared.forms.Reading.TheVariants.{View, ByHand, Match, MatchAll, Totals, Chart, Speeds, Show}
use Rattle.tacho.specs.Read.{EndsPut, IsBad, IsReadingEnd, IsUnfinished, IsUnshown, IsWhole, MayStopWithin, Prints}
use Rattle.tacho.specs.Show.{PutsPieces}

module _ (reading : Reading) (bytes : List ℕ) (held sunk : Option (List ℕ)) (same : Type 0) where
  pub put-printed : (r : Result (Unit {0}) Fault) → EndsPut reading bytes r held sunk same → OnOk r ((out : List ℕ) × Prints reading bytes out × Appends held sunk out)
  put-printed (Ok u) ends = ends
  put-printed (Err fault) ends = tt

  pub put-bad : (r : Result (Unit {0}) Fault) (place : ℕ) → EndsPut reading bytes r held sunk same → r ≡ Err (BadFile place) → IsBad reading place bytes
  put-bad (Ok u) place ends is = absurd (cc)
  put-bad (Err (BadFile p)) place ends is = let e : p ≡ place = cc in subst (λ (q : ℕ). IsBad reading q bytes) e ends.0
  put-bad (Err WriteFault) place ends is = absurd (cc)
  put-bad (Err Memory) place ends is = absurd (cc)
  put-bad (Err _) place ends is = absurd ends

  pub put-front : (r : Result (Unit {0}) Fault) → EndsPut reading bytes r held sunk same → r ≡ Err WriteFault → (out : List ℕ) × Prints reading bytes out × AppendsFront held sunk out
  put-front (Ok u) ends is = absurd (cc)
  put-front (Err (BadFile p)) ends is = absurd (cc)
  put-front (Err WriteFault) ends is = ends
  put-front (Err Memory) ends is = absurd (cc)
  put-front (Err _) ends is = absurd ends

  pub put-not-long : (r : Result (Unit {0}) Fault) (n : ℕ) → EndsPut reading bytes r held sunk same → r ≡ Err (TooLong n) → ⊥
  put-not-long (Ok u) n ends is = cc
  put-not-long (Err (BadFile p)) n ends is = cc
  put-not-long (Err WriteFault) n ends is = cc
  put-not-long (Err Memory) n ends is = cc
  put-not-long (Err _) n ends is = ends

  pub put-not-read : (r : Result (Unit {0}) Fault) → EndsPut reading bytes r held sunk same → r ≡ Err ReadFault → ⊥
  put-not-read (Ok u) ends is = cc
  put-not-read (Err (BadFile p)) ends is = cc
  put-not-read (Err WriteFault) ends is = cc
  put-not-read (Err Memory) ends is = cc
  put-not-read (Err _) ends is = ends

  pub put-other : (r : Result (Unit {0}) Fault) → EndsPut reading bytes r held sunk same → IfErr r (λ fault. (fault ≡ Done → ⊥) × IsReadingEnd fault)
  put-other (Ok u) ends = tt
  put-other (Err (BadFile p)) ends = (λ e. cc, tt)
  put-other (Err WriteFault) ends = (λ e. cc, tt)
  put-other (Err Memory) ends = (λ e. cc, tt)
  put-other (Err _) ends = absurd ends

-- where memory ran out
unfinished : (reading : Reading) (same front : Type 0) → IsUnfinished reading same front → same ⊎ front
unfinished (Show last) same front is = is
unfinished (View last) same front is = inl is
unfinished ByHand same front is = inl is
unfinished Match same front is = inl is
unfinished MatchAll same front is = inl is
unfinished (Totals last) same front is = inl is
unfinished (Chart last) same front is = inl is
unfinished (Speeds last) same front is = inl is

pub put-short : (reading : Reading) (bytes : List ℕ) (held sunk : Option (List ℕ)) (same : Type 0) (r : Result (Unit {0}) Fault) → EndsPut reading bytes r held sunk same → r ≡ Err Memory
    → same ⊎ ((out : List ℕ) × Prints reading bytes out × AppendsFront held sunk out)
put-short reading bytes held sunk same (Ok u) ends is = absurd (cc)
put-short reading bytes held sunk same (Err (BadFile p)) ends is = absurd (cc)
put-short reading bytes held sunk same (Err WriteFault) ends is = absurd (cc)
put-short reading bytes held sunk same (Err Memory) ends is = unfinished reading same ((out : List ℕ) × Prints reading bytes out × AppendsFront held sunk out) ends
put-short reading bytes held sunk same (Err _) ends is = absurd ends

-- where no front may have been printed
untouched : (reading : Reading) (same front : Type 0) → IsUnfinished reading same front → (MayStopWithin reading Memory → ⊥) → same
untouched (Show last) same front is none = absurd (none tt)
untouched (View last) same front is none = is
untouched ByHand same front is none = is
untouched Match same front is none = is
untouched MatchAll same front is none = is
untouched (Totals last) same front is none = is
untouched (Chart last) same front is none = is
untouched (Speeds last) same front is none = is

wrote-within : (reading : Reading) → MayStopWithin reading WriteFault
wrote-within (Show last) = tt
wrote-within (View last) = tt
wrote-within ByHand = tt
wrote-within Match = tt
wrote-within MatchAll = tt
wrote-within (Totals last) = tt
wrote-within (Chart last) = tt
wrote-within (Speeds last) = tt

pub put-nothing : (reading : Reading) (bytes : List ℕ) (held sunk : Option (List ℕ)) (same : Type 0) (r : Result (Unit {0}) Fault) → EndsPut reading bytes r held sunk same
    → IfErr r (λ fault. (MayStopWithin reading fault → ⊥) → same)
put-nothing reading bytes held sunk same (Ok u) ends = tt
put-nothing reading bytes held sunk same (Err (BadFile p)) ends = λ none. ends.1
put-nothing reading bytes held sunk same (Err WriteFault) ends = λ none. absurd (none (wrote-within reading))
put-nothing reading bytes held sunk same (Err Memory) ends = untouched reading same ((out : List ℕ) × Prints reading bytes out × AppendsFront held sunk out) ends
put-nothing reading bytes held sunk same (Err _) ends = absurd ends

-- each reading but `show` is made whole
pub whole-of : (reading : Reading) → ((last : Option ℕ) → reading ≡ Show last → ⊥) → IsWhole reading
whole-of (Show last) other = absurd (other last refl)
whole-of (View last) other = tt
whole-of ByHand other = tt
whole-of Match other = tt
whole-of MatchAll other = tt
whole-of (Totals last) other = tt
whole-of (Chart last) other = tt
whole-of (Speeds last) other = tt

-- a file that was not shown, and nothing was printed
pub unshown-put : (reading : Reading) (bytes : List ℕ) (held sunk : Option (List ℕ)) (same : Type 0) (fault : Fault) → IsUnshown (λ place. IsBad reading place bytes) fault → same → EndsPut reading bytes (Err fault) held sunk same
unshown-put reading bytes held sunk same (BadFile p) is here = (is, here)
unshown-put reading bytes held sunk same Memory is here = kept reading same ((out : List ℕ) × Prints reading bytes out × AppendsFront held sunk out) here
  where
    kept : (reading : Reading) (same front : Type 0) → same → IsUnfinished reading same front
    kept (Show last) same front here = inl here
    kept (View last) same front here = here
    kept ByHand same front here = here
    kept Match same front here = here
    kept MatchAll same front here = here
    kept (Totals last) same front here = here
    kept (Chart last) same front here = here
    kept (Speeds last) same front here = here
unshown-put reading bytes held sunk same _ is here = absurd is

-- pieces that tell a text are put as it is
pub pieces-put : (last : Option ℕ) (bytes text : List ℕ) (held sunk : Option (List ℕ)) (same : Type 0) (r : Result (Unit {0}) Fault) → Prints (Show last) bytes text → PutsPieces text r held sunk
    → EndsPut (Show last) bytes r held sunk same
pieces-put last bytes text held sunk same (Ok u) prints puts = (text, prints, puts)
pieces-put last bytes text held sunk same (Err WriteFault) prints puts = (text, prints, puts.0)
pieces-put last bytes text held sunk same (Err Memory) prints puts = inr (text, prints, puts.0)
pieces-put last bytes text held sunk same (Err _) prints puts = absurd puts.1

-- what holds whatever was answered
pub on-ok : {T E P : Type 0} (r : Result T E) → P → OnOk r P
on-ok (Ok v) p = p
on-ok (Err e) p = tt

-- no write failed where a file was not shown
pub not-written : (IsPlace : ℕ → Type 0) (fault : Fault) → IsUnshown IsPlace fault → fault ≡ WriteFault → ⊥
not-written IsPlace (BadFile p) is e = cc
not-written IsPlace Memory is e = cc
not-written IsPlace _ is e = is

-- a count that rose later rose from before
pub rose-later : (a b c : ℕ) → a ≤ b → Rose b c → Rose a c
rose-later a b c low rose = omega arith
