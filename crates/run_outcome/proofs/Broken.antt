-- How often the unit broke down, over each step.
use Rattle.std.proofs.Common.{◌≡◌, ℕ, ◌+◌, ◌≤◌, ◌<◌, sym, true, List, [], ◌∷◌, ◌++◌, length, map, filter, refl, ap, ◌∙◌, arith, length-append}
use Rattle.std.specs.Prelude.{◌&&◌}
use Rattle.std.proofs.lemmas.List.{length-map, map-append}
use Rattle.std.proofs.lemmas.List.Elements.{filter-append}
use Rattle.tach_media.specs.Medium.{State, Rose, HasBroken, last_count}
use Rattle.log_model.specs.declared.lines.Break.{Break}
use Rattle.log_model.specs.Log.{RunLog}
use Rattle.log_model.specs.Causes.{cuts, is_cut, has_failed, second_of}
use Rattle.run_unit_course.specs.Caused.{cuts_by}
use Rattle.run_unit_course.proofs.Offs.{by-same, by-found}
use Rattle.run_outcome.specs.Lines.{cut_at, found_from}
use Rattle.run_outcome.specs.Broken.{failed_cuts, BreaksDown}

-- the cuts of lines, and of more lines
pub cuts-behind : (xs ys : List Break) → failed_cuts (xs ++ ys) ≡ failed_cuts xs + failed_cuts ys
cuts-behind xs ys =
    ap (λ (bs : List Break). length (map second_of bs)) (filter-append (λ (b : Break). is_cut b && has_failed b) xs ys)
    ∙ ap (λ (us : List ℕ). length us) (map-append second_of (filter (λ (b : Break). is_cut b && has_failed b) xs) (filter (λ (b : Break). is_cut b && has_failed b) ys))
    ∙ length-append (cuts_by true xs) (cuts_by true ys)

-- no cut more, and no breakdown
pub broke-same : {before after : List Break} {old new : State} → failed_cuts after ≡ failed_cuts before → new.breakdowns ≡ old.breakdowns → BreaksDown before after old new
broke-same same calm = record { few = omega (arith, same); broke = omega (arith, same, calm); calm = λ none. calm; most = λ low. omega (arith, same, calm) }

pub broke-none : (breaks : List Break) {old new : State} → new.breakdowns ≡ old.breakdowns → BreaksDown breaks breaks old new
broke-none breaks calm = record { few = omega arith; broke = omega (arith, calm); calm = λ none. calm; most = λ low. omega (arith, calm) }

-- what was found of the cuts
pub broke-found : {before after : List Break} (n k : ℕ) {old new : State} → after ≡ found_from n k before → new.breakdowns ≡ old.breakdowns → BreaksDown before after old new
broke-found {before} {after} n k is calm = broke-same (ap failed_cuts is ∙ ap length (by-found true n k before)) calm

-- one more, by a failed call
pub broke-once : {before after : List Break} (second begun : ℕ) {old new : State} → after ≡ before ++ cut_at second true begun ∷ [] → Rose old.breakdowns new.breakdowns → (new.breakdowns < last_count → new.breakdowns ≤ old.breakdowns + 1)
    → BreaksDown before after old new
broke-once {before} {after} second begun {old} {new} is rose once =
    let more : failed_cuts after ≡ failed_cuts before + 1 = ap failed_cuts is ∙ ap length (by-same before second true begun) ∙ length-append (cuts_by true before) (second ∷ []) in
    record { few = omega (arith, more); broke = omega (arith, more, rose); calm = λ none. absurd (omega (arith, more, none)); most = λ low. let few = once low in omega (arith, more, few) }

-- lines more, of which none is such a cut
pub broke-behind : {before after : List Break} (more : List Break) {old new : State} → after ≡ before ++ more → failed_cuts more ≡ 0 → new.breakdowns ≡ old.breakdowns → BreaksDown before after old new
broke-behind {before} more is none calm = broke-same (ap failed_cuts is ∙ cuts-behind before more ∙ (let same : failed_cuts before + failed_cuts more ≡ failed_cuts before = omega (arith, none) in same)) calm

-- two steps
pub broke-then : {before mids after : List Break} {old mid new : State} → BreaksDown before mids old mid → BreaksDown mids after mid new → BreaksDown before after old new
broke-then first next = record {
  few = let a = first.few in let b = next.few in omega (arith, a, b);
  broke = let a = first.few in let b = next.few in let x = first.broke in let y = next.broke in omega (arith, a, b, x, y);
  calm = λ none. let a = first.few in let b = next.few in next.calm (omega (arith, none, a, b)) ∙ first.calm (omega (arith, none, a, b));
  most =
      λ low.
      let a = first.few in
      let b = next.few in
      let rises = next.broke in
      let x = first.most (omega (arith, low, b, rises)) in
      let y = next.most low in
      omega (arith, x, y);
}

-- a whole run
pub broke-all : (log : RunLog) {before : List Break} {old new : State} → before ≡ [] → old.faults ≤ new.faults → BreaksDown before log.breaks old new → HasBroken old new (length (cuts true log))
broke-all log none faults h = record {
  faults = faults;
  breakdowns =
      let zero_cuts : failed_cuts [] ≡ 0 = refl in
      let start = ap failed_cuts none ∙ zero_cuts in
      let all : failed_cuts log.breaks ≡ length (cuts true log) = length-map (cuts true log) second_of in
      let broke = h.broke in
      omega (arith, start, all, broke);
}

-- of an outcome without a line, whatever the unit did
pub broke-nothing : (log : RunLog) {old new : State} → log.breaks ≡ [] → old.faults ≤ new.faults → old.breakdowns ≤ new.breakdowns → HasBroken old new (length (cuts true log))
broke-nothing log none faults more = record {
  faults = faults;
  breakdowns =
      let few : length (cuts true log) ≡ 0 = sym (length-map (cuts true log) second_of) ∙ ap failed_cuts none in
      omega (arith, few, more);
}

-- where no failed call has cut the power, the unit has not broken down
pub calm-all : (log : RunLog) {before : List Break} {old new : State} → before ≡ [] → BreaksDown before log.breaks old new → cuts true log ≡ [] → new.breakdowns ≡ old.breakdowns
calm-all log none h uncut =
    let zero_cuts : failed_cuts [] ≡ 0 = refl in
    let start = ap failed_cuts none ∙ zero_cuts in
    let all : failed_cuts log.breaks ≡ length (cuts true log) = length-map (cuts true log) second_of in
    let few : length (cuts true log) ≡ 0 = ap (λ (bs : List Break). length bs) uncut in
    h.calm (omega (arith, start, all, few))

-- nor has it more often than failed calls have cut the power, as long as that count stands below its last value
pub most-all : (log : RunLog) {before : List Break} {old new : State} → before ≡ [] → BreaksDown before log.breaks old new → new.breakdowns < last_count → new.breakdowns ≤ old.breakdowns + length (cuts true log)
most-all log none h low =
    let zero_cuts : failed_cuts [] ≡ 0 = refl in
    let start = ap failed_cuts none ∙ zero_cuts in
    let all : failed_cuts log.breaks ≡ length (cuts true log) = length-map (cuts true log) second_of in
    let few = h.most low in
    omega (arith, start, all, few)
