-- What has come, one line after another.
use Rattle.std.proofs.Common.{◌≡◌, ◌∙◌, ℕ, ◌+◌, true, false, None, Some, Option, List, [], ◌∷◌, ◌++◌, length, refl, ap, sym, subst, arith, append_assoc, append-nil, length-append, inl, inr}
use Rattle.std.specs.Prelude.{Result, IfErr}
use Rattle.std.specs.List.{AllByRecursion}
use Rattle.std.proofs.lemmas.List.{map-append}
use Rattle.trace_model.specs.declared.Item.{Item}
use Rattle.trace_model.specs.declared.Item.TheVariants.{Run, Off, Act}
use Rattle.trace_model.specs.Trace.{total_seconds, item_seconds}
use Rattle.trace_text.specs.declared.lines_trace.Form.{Form}
use Rattle.trace_text.specs.declared.lines_trace.TraceFault.{TraceFault}
use Rattle.trace_text.specs.declared.lines_trace.TraceFault.TheVariants.{ReadFault, BadLine, TooLong, Memory}
use Rattle.trace_text.specs.declared.coming.Coming.{Coming}
use Rattle.trace_text.specs.Text.{counts, fields, counted, numbered}
use Rattle.trace_text.specs.Line.{IsStart, IsItem, IsKnown}
use Rattle.trace_text.specs.Trace.{Spells, IsWithinLimits, items_of, put_in, added, waits, waiting_from, opened, ended}
use Rattle.trace_text.specs.Judged.{IsFirstBad, bad_line, IsPassedAt, items_before}
use Rattle.trace_text.specs.Coming.{HasPassed, HasSpelled, HasStarted, HasCome, IsFaultAt, IsFaultOf}
use Rattle.trace_text.proofs.Numbering.{counted-line, counted-same}
use Rattle.trace_text.proofs.Grammar.{spells-start, spells-more, bad_item, bad_start}
use Rattle.trace_text.proofs.PutIn.{opened-more, waiting-more, put_in-known}
use Rattle.trace_text.proofs.Passed.{passed-behind}

one-longer : (lines : List (List ℕ)) (line : List ℕ) (n : ℕ) → length lines ≡ n → length (lines ++ line ∷ []) ≡ n + 1
one-longer lines line n is = omega (arith, length-append lines (line ∷ []), is)

started-same : (lines : List (ℕ × List (List ℕ))) (items : List Item) (old : Coming) (n : ℕ) (start : Option ℕ) → HasStarted lines items old start → HasStarted lines items (record old { lines = n }) start
started-same lines items old n None is = is
started-same lines items old n (Some start) is =
    record { written = is.written; spells = is.spells; items_are = is.items_are; waiting = is.waiting; passed = is.passed }

-- a line that is passed over
pub read-skip : (lines : List (List ℕ)) (items : List Item) (line : List ℕ) (old : Coming) → HasCome lines items old → counts line ≡ false → HasCome (lines ++ line ∷ []) (items ++ []) (record old { lines = old.lines + 1 })
read-skip lines items line old is skipped =
    let new : Coming = record old { lines = old.lines + 1 } in
    let P : List (ℕ × List (List ℕ)) → Type 0 = λ ls. HasStarted ls items new old.start in
    let Q : List Item → Type 0 = λ xs. HasCome (lines ++ line ∷ []) xs new in
    subst Q (sym (append-nil items)) (record {
      number = one-longer lines line old.lines is.number;
      state = subst P (sym (counted-same lines line skipped)) (started-same (counted lines) items old (old.lines + 1) old.start is.state);
    })

-- before the `start` line
pub before-start : (lines : List (List ℕ)) (items : List Item) (old : Coming) → HasCome lines items old → old.start ≡ None → HasStarted (counted lines) items old None
before-start lines items old is first = let P : Option ℕ → Type 0 = λ s. HasStarted (counted lines) items old s in subst P first is.state

-- behind the `start` line
pub behind-start : (lines : List (List ℕ)) (items : List Item) (old : Coming) (start : ℕ) → HasCome lines items old → old.start ≡ Some start → HasSpelled (counted lines) start items old
behind-start lines items old start is later = let P : Option ℕ → Type 0 = λ s. HasStarted (counted lines) items old s in subst P later is.state

-- the `start` line
pub read-start : (lines : List (List ℕ)) (items : List Item) (line : List ℕ) (old : Coming) (start : ℕ) → HasCome lines items old → old.start ≡ None → counts line ≡ true → IsStart (fields line) start → HasCome (lines ++ line ∷ []) (items ++ []) (record old { start = Some start; lines = old.lines + 1 })
read-start lines items line old start is first counts_it reads =
    let none = before-start lines items old is first in
    let new : Coming = record old { start = Some start; lines = old.lines + 1 } in
    let only : counted (lines ++ line ∷ []) ≡ (old.lines + 1, fields line) ∷ [] = counted-line lines line [] old.lines counts_it is.number ∙ ap (λ (ls : List (ℕ × List (List ℕ))). ls ++ (old.lines + 1, fields line) ∷ []) none.0 in
    let P : List (ℕ × List (List ℕ)) → Type 0 = λ ls. Spells old.form ls start [] in
    let Q : List Item → Type 0 = λ xs. HasCome (lines ++ line ∷ []) xs new in
    subst Q (sym (append-nil items)) (record {
      number = one-longer lines line old.lines is.number;
      state = record {
        written = [];
        spells = subst P (sym only) (spells-start old.form (old.lines + 1) start (fields line) reads);
        items_are = none.1;
        waiting = none.3;
        passed = record { total_is = none.2; within = (omega (arith, none.2), omega (arith, none.2, reads.1.1)) };
      };
    })

-- a first line that counts and is not `start`
pub start-bad : (lines behind : List (List ℕ)) (items : List Item) (line : List ℕ) (old : Coming) → HasCome lines items old → old.start ≡ None → counts line ≡ true → ((t : ℕ) → IsStart (fields line) t → ⊥) → IsFirstBad old.form (lines ++ line ∷ behind) (old.lines + 1)
start-bad lines behind items line old is first counts_it none =
    let nothing = (before-start lines items old is first).0 in
    let after = numbered (old.lines + 2) behind in
    let split = counted-line lines line behind old.lines counts_it is.number ∙ ap (λ (ls : List (ℕ × List (List ℕ))). ls ++ (old.lines + 1, fields line) ∷ after) nothing in
    bad_line [] (fields line) after split (inl refl) (bad_start old.form (old.lines + 1) (fields line) none)

-- a line that counts and is no item's
pub item-bad : (lines behind : List (List ℕ)) (items : List Item) (line : List ℕ) (old : Coming) (start : ℕ) → HasCome lines items old → old.start ≡ Some start → counts line ≡ true → ((item : Item) → IsItem old.form (fields line) item → ⊥) → IsFirstBad old.form (lines ++ line ∷ behind) (old.lines + 1)
item-bad lines behind items line old start is later counts_it none =
    let s = behind-start lines items old start is later in
    let total = s.passed.total_is in
    let within : IsWithinLimits start (total_seconds (items_of (opened s.written))) = (omega (arith, total, s.passed.within.0), omega (arith, total, s.passed.within.1)) in
    bad_line (counted lines) (fields line) (numbered (old.lines + 2) behind) (counted-line lines line behind old.lines counts_it is.number) (inr (start, s.written, s.spells, within)) (bad_item old.form (counted lines) (old.lines + 1) start (fields line) s.written s.spells none)

-- or it passes a limit
pub taken-long : (start line total : ℕ) (placed more : List (ℕ × Item)) (item : Item) → HasPassed start placed total → (IsWithinLimits start (total + item_seconds item) → ⊥) → IsPassedAt start 0 (placed ++ ((line, item) ∷ more)) line
taken-long start line total placed more item is passed =
    passed-behind start 0 total placed ((line, item) ∷ more) line (omega (arith, is.total_is)) is.within (inl (refl, passed))

-- an `off` comes behind the second that is put in
off-added : (line seconds : ℕ) (placed more : List (ℕ × Item)) (waiting : Option ℕ) → (placed ++ put_in waiting) ++ ((line, Off seconds) ∷ more) ≡ placed ++ (added waiting (line, Off seconds) ++ more)
off-added line seconds placed more waiting =
    append_assoc placed (put_in waiting) ((line, Off seconds) ∷ more)
    ∙ ap (λ (ps : List (ℕ × Item)). placed ++ ps) (sym (append_assoc (put_in waiting) ((line, Off seconds) ∷ []) more))

pub off-fault : {T : Type 0} → (start line seconds : ℕ) (placed more : List (ℕ × Item)) (waiting : Option ℕ) (item : Item) (result : Result T TraceFault) → item ≡ Off seconds → IfErr result (IsFaultAt start ((placed ++ put_in waiting) ++ ((line, item) ∷ more))) → IfErr result (IsFaultAt start (placed ++ (added waiting (line, item) ++ more)))
off-fault start line seconds placed more waiting item result is fault =
    let P : Item → Type 0 = λ i. IfErr result (IsFaultAt start ((placed ++ put_in waiting) ++ ((line, i) ∷ more))) in
    let Q : Item → Type 0 = λ i. IfErr result (IsFaultAt start (placed ++ (added waiting (line, i) ++ more))) in
    let R : List (ℕ × Item) → Type 0 = λ ps. IfErr result (IsFaultAt start ps) in
    subst Q (sym is) (subst R (off-added line seconds placed more waiting) (subst P is fault))

-- what comes by an item is known to the form
pub added-known : (form : Form) (waiting : Option ℕ) (line : ℕ) (item : Item) → IsKnown form item → AllByRecursion (IsKnown form) (items_of (added waiting (line, item)))
added-known form waiting line (Run seconds speed) known = (known, tt)
added-known form None line (Off seconds) known = (known, tt)
added-known form (Some n) line (Off seconds) known = (put_in-known form, (known, tt))
added-known form waiting line (Act action) known = (known, tt)

-- a line of one more item
pub read-item : (lines : List (List ℕ)) (items : List Item) (line : List ℕ) (old : Coming) (start total : ℕ) (item : Item) (more : List Item) → HasCome lines items old → old.start ≡ Some start → counts line ≡ true → IsItem old.form (fields line) item → more ≡ items_of (added old.waiting (old.lines + 1, item))
    → ((placed : List (ℕ × Item)) → HasPassed start placed old.total → HasPassed start (placed ++ added old.waiting (old.lines + 1, item)) total)
    → HasCome (lines ++ line ∷ []) (items ++ more) (record old { total = total; waiting = waits (old.lines + 1, item); lines = old.lines + 1 })
read-item lines items line old start total item more is later counts_it reads more_is took =
    let s = behind-start lines items old start is later in
    let new : Coming = record old { total = total; waiting = waits (old.lines + 1, item); lines = old.lines + 1 } in
    let P : List (ℕ × List (List ℕ)) → Type 0 = λ ls. Spells old.form ls start (s.written ++ (old.lines + 1, item) ∷ []) in
    let spells = subst P (sym (counted-line lines line [] old.lines counts_it is.number)) (spells-more old.form (counted lines) (old.lines + 1) start (fields line) s.written item s.spells reads) in
    let placed : opened s.written ++ added old.waiting (old.lines + 1, item) ≡ opened (s.written ++ (old.lines + 1, item) ∷ []) = ap (λ (w : Option ℕ). opened s.written ++ added w (old.lines + 1, item)) s.waiting ∙ sym (opened-more s.written (old.lines + 1, item)) in
    let items_are : items ++ more ≡ items_of (opened (s.written ++ (old.lines + 1, item) ∷ [])) =
    ap (λ (xs : List Item). xs ++ more) s.items_are ∙ ap (λ (xs : List Item). items_of (opened s.written) ++ xs) more_is
    ∙ sym (map-append (λ (p : ℕ × Item). p.1) (opened s.written) (added old.waiting (old.lines + 1, item))) ∙ ap (λ (ps : List (ℕ × Item)). items_of ps) placed in
    let T : List (ℕ × Item) → Type 0 = λ ps. HasPassed start ps total in
    let spelled : HasSpelled (counted (lines ++ line ∷ [])) start (items ++ more) new =
    record {
      written = s.written ++ (old.lines + 1, item) ∷ [];
      spells = spells;
      items_are = items_are;
      waiting = sym (waiting-more None s.written (old.lines + 1, item));
      passed = subst T placed (took (opened s.written) s.passed);
    } in
    record {
      number = one-longer lines line old.lines is.number;
      state = let Q : Option ℕ → Type 0 = λ at. HasStarted (counted (lines ++ line ∷ [])) (items ++ more) new at in subst Q (sym later) spelled;
    }

-- the items so far are a front of what they are with lines behind them
before-open : (behind : List (ℕ × List (List ℕ))) (written : List (ℕ × Item)) → (more : List (ℕ × Item)) × (items_before behind written ≡ opened written ++ more)
before-open [] written = (put_in (waiting_from None written), refl)
before-open (line ∷ behind) written = ([], sym (append-nil (opened written)))

-- a line of an item at which a limit is passed
pub item-long : (lines behind : List (List ℕ)) (items : List Item) (line : List ℕ) (old : Coming) (start : ℕ) (item : Item) (fault : TraceFault) → HasCome lines items old → old.start ≡ Some start → counts line ≡ true → IsItem old.form (fields line) item
    → ((placed more : List (ℕ × Item)) → HasPassed start placed old.total → IsFaultAt start (placed ++ (added old.waiting (old.lines + 1, item) ++ more)) fault)
    → IsFaultOf old.form (lines ++ line ∷ behind) fault
item-long lines behind items line old start item ReadFault is later counts_it reads passed = let s = behind-start lines items old start is later in passed (opened s.written) [] s.passed
item-long lines behind items line old start item (BadLine n) is later counts_it reads passed = let s = behind-start lines items old start is later in absurd (passed (opened s.written) [] s.passed)
item-long lines behind items line old start item Memory is later counts_it reads passed = tt
item-long lines behind items line old start item (TooLong n) is later counts_it reads passed =
    let s = behind-start lines items old start is later in
    let after = numbered (old.lines + 2) behind in
    let written = s.written ++ (old.lines + 1, item) ∷ [] in
    let first = before-open after written in
    let all : items_before after written ≡ opened s.written ++ (added old.waiting (old.lines + 1, item) ++ first.0) =
    first.1 ∙ ap (λ (ps : List (ℕ × Item)). ps ++ first.0) (opened-more s.written (old.lines + 1, item) ∙ ap (λ (w : Option ℕ). opened s.written ++ added w (old.lines + 1, item)) (sym s.waiting)) ∙ append_assoc (opened s.written) (added old.waiting (old.lines + 1, item)) first.0 in
    let P : List (ℕ × Item) → Type 0 = λ ps. IsPassedAt start 0 ps n in
    record {
      front = counted lines ++ (old.lines + 1, fields line) ∷ [];
      behind = after;
      split = counted-line lines line behind old.lines counts_it is.number ∙ sym (append_assoc (counted lines) ((old.lines + 1, fields line) ∷ []) after);
      start = start;
      written = written;
      spells = spells-more old.form (counted lines) (old.lines + 1) start (fields line) s.written item s.spells reads;
      passed = subst P (sym all) (passed (opened s.written) first.0 s.passed);
    }

pub end-long : (lines : List (List ℕ)) (items : List Item) (old : Coming) (start : ℕ) (fault : TraceFault) → HasCome lines items old → old.start ≡ Some start → ((placed more : List (ℕ × Item)) → HasPassed start placed old.total → IsFaultAt start (placed ++ (put_in old.waiting ++ more)) fault) → IsFaultOf old.form lines fault
end-long lines items old start ReadFault is later passed = let s = behind-start lines items old start is later in passed (opened s.written) [] s.passed
end-long lines items old start (BadLine n) is later passed = let s = behind-start lines items old start is later in absurd (passed (opened s.written) [] s.passed)
end-long lines items old start Memory is later passed = tt
end-long lines items old start (TooLong n) is later passed =
    let s = behind-start lines items old start is later in
    let all : ended s.written ≡ opened s.written ++ (put_in old.waiting ++ []) = ap (λ (w : Option ℕ). opened s.written ++ put_in w) (sym s.waiting) ∙ ap (λ (ps : List (ℕ × Item)). opened s.written ++ ps) (sym (append-nil (put_in old.waiting))) in
    let P : List (ℕ × Item) → Type 0 = λ ps. IsPassedAt start 0 ps n in
    record {
      front = counted lines;
      behind = [];
      split = sym (append-nil (counted lines));
      start = start;
      written = s.written;
      spells = s.spells;
      passed = subst P (sym all) (passed (opened s.written) [] s.passed);
    }
