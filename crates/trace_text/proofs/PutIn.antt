-- The seconds that are put in.
use Rattle.std.proofs.Common.{◌≡◌, ◌∙◌, ℕ, ◌+◌, ◌*◌, ◌≤◌, Option, None, Some, List, [], ◌∷◌, ◌++◌, length, refl, ap, sym, arith, append_assoc, append-nil}
use Rattle.std.specs.List.{AllByRecursion}
use Rattle.trace_model.specs.declared.Item.{Item}
use Rattle.trace_model.specs.declared.Item.TheVariants.{Run, Off, Act}
use Rattle.trace_text.specs.declared.lines_trace.Form.{Form}
use Rattle.trace_text.specs.declared.lines_trace.Form.TheVariants.{Minutes, Whole}
use Rattle.trace_text.specs.Line.{IsKnown, InRange}
use Rattle.trace_text.specs.Trace.{put_in, waits, added, open_from, waiting_from, opened, ended, items_of, RunComes, HasRuns}
use Rattle.trace_text.specs.Judged.{items_before}
use Rattle.trace_text.proofs.Grammar.{AllKnown}

-- one list behind another
pub open-append : (waiting : Option ℕ) (xs ys : List (ℕ × Item)) → open_from waiting (xs ++ ys) ≡ open_from waiting xs ++ open_from (waiting_from waiting xs) ys
open-append waiting [] ys = refl
open-append waiting (x ∷ xs) ys =
    ap (λ (zs : List (ℕ × Item)). added waiting x ++ zs) (open-append (waits x) xs ys)
    ∙ sym (append_assoc (added waiting x) (open_from (waits x) xs) (open_from (waiting_from (waits x) xs) ys))

-- one more line
pub opened-more : (written : List (ℕ × Item)) (item : ℕ × Item) → opened (written ++ item ∷ []) ≡ opened written ++ added (waiting_from None written) item
opened-more written item =
    open-append None written (item ∷ []) ∙ ap (λ (zs : List (ℕ × Item)). opened written ++ zs) (append-nil (added (waiting_from None written) item))

pub waiting-more : (waiting : Option ℕ) (written : List (ℕ × Item)) (item : ℕ × Item) → waiting_from waiting (written ++ item ∷ []) ≡ waits item
waiting-more waiting [] item = refl
waiting-more waiting (x ∷ written) item = waiting-more (waits x) written item

-- the items so far are a front of what they are with more lines behind them
pub before-front : (behind : List (ℕ × List (List ℕ))) (xs ys : List (ℕ × Item)) → (more : List (ℕ × Item)) × (items_before behind (xs ++ ys) ≡ opened xs ++ more)
before-front [] xs ys = (
  open_from (waiting_from None xs) ys ++ put_in (waiting_from None (xs ++ ys)),
  ap (λ (zs : List (ℕ × Item)). zs ++ put_in (waiting_from None (xs ++ ys))) (open-append None xs ys) ∙ append_assoc (opened xs) (open_from (waiting_from None xs) ys) (put_in (waiting_from None (xs ++ ys))),
)
before-front (line ∷ behind) xs ys = (open_from (waiting_from None xs) ys, open-append None xs ys)

-- the items at the end, where this action waits before them
abbrev all_of : Option ℕ → List (ℕ × Item) → List (ℕ × Item)
all_of waiting written = open_from waiting written ++ put_in (waiting_from waiting written)

comes : (line : ℕ) (written : List (ℕ × Item)) → RunComes (items_of (all_of (Some line) written))
comes line [] = tt
comes line ((n, Run seconds speed) ∷ written) = tt
comes line ((n, Off seconds) ∷ written) = tt
comes line ((n, Act action) ∷ written) = comes n written

has_runs : (waiting : Option ℕ) (written : List (ℕ × Item)) → HasRuns (items_of (all_of waiting written))
has_runs None [] = tt
has_runs (Some line) [] = tt
has_runs waiting ((n, Run seconds speed) ∷ written) = has_runs None written
has_runs None ((n, Off seconds) ∷ written) = has_runs None written
has_runs (Some line) ((n, Off seconds) ∷ written) = has_runs None written
has_runs waiting ((n, Act action) ∷ written) = (comes n written, has_runs (Some n) written)

-- behind each action of a trace a run comes before the next `off` and before the end
pub ended-runs : (written : List (ℕ × Item)) → HasRuns (items_of (ended written))
ended-runs written = has_runs None written

all-few : (waiting : Option ℕ) (written : List (ℕ × Item)) → length (items_of (all_of waiting written)) ≤ 2 * length written + 1
all-few None [] = omega arith
all-few (Some line) [] = omega arith
all-few waiting ((n, Run seconds speed) ∷ written) = omega (arith, all-few None written)
all-few None ((n, Off seconds) ∷ written) = omega (arith, all-few None written)
all-few (Some line) ((n, Off seconds) ∷ written) = omega (arith, all-few None written)
all-few waiting ((n, Act action) ∷ written) = omega (arith, all-few (Some n) written)

-- at most one second is put in for each line, and one at the end
pub ended-few : (written : List (ℕ × Item)) → length (items_of (ended written)) ≤ 2 * length written + 1
ended-few written = all-few None written

pub put_in-known : (form : Form) → IsKnown form (Run 1 0)
put_in-known Minutes = (refl, (omega arith, omega arith, omega arith))
put_in-known Whole = (refl, (omega arith, omega arith, omega arith))

all_known : (form : Form) (waiting : Option ℕ) (written : List (ℕ × Item)) → AllKnown form written → AllByRecursion (IsKnown form) (items_of (all_of waiting written))
all_known form None [] all = tt
all_known form (Some line) [] all = (put_in-known form, tt)
all_known form waiting ((n, Run seconds speed) ∷ written) all = (all.0, all_known form None written all.1)
all_known form None ((n, Off seconds) ∷ written) all = (all.0, all_known form None written all.1)
all_known form (Some line) ((n, Off seconds) ∷ written) all = (put_in-known form, (all.0, all_known form None written all.1))
all_known form waiting ((n, Act action) ∷ written) all = (all.0, all_known form (Some n) written all.1)

-- the second that is put in is known to both forms
pub ended-known : (form : Form) (written : List (ℕ × Item)) → AllKnown form written → AllByRecursion (IsKnown form) (items_of (ended written))
ended-known form written all = all_known form None written all

pub known-ranges : (form : Form) (items : List Item) → AllByRecursion (IsKnown form) items → AllByRecursion InRange items
known-ranges form [] all = tt
known-ranges form (item ∷ items) all = (all.0.1, known-ranges form items all.1)
