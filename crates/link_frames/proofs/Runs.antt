-- A run over frames, and over bytes, in two parts.
use Rattle.std.proofs.Common.{◌≡◌, ℕ, List, [], ◌∷◌, ◌++◌, map, Option, refl, sym, ◌∙◌, ap, append_assoc}
use Rattle.std.specs.Prelude.{option_to_list}
use Rattle.std.specs.List.{concat}
use Rattle.std.proofs.lemmas.List.{map-append}
use Rattle.std.proofs.lemmas.List.Folds.{concat-append}
use Rattle.link_model.specs.declared.request.Request.{Request}
use Rattle.link_model.specs.declared.side.End.TheVariants as side
use Rattle.link_model.specs.Frames.{Heard}
use Rattle.link_model.specs.Hearing.{heard_in, kept_after}
use Rattle.link_model.specs.Writing.{written_to}
use Rattle.link_model.specs.Answers.{LinkState, answered, run_from}
use Rattle.link_model.proofs.Runs.{heard_append, kept_append}
use Rattle.link_frames.specs.Running.{state_after, Line, line_after, answers_from}

pub run_append : (messages : Request → Option (List ℕ)) (state : LinkState) (seen more : List Heard)
    → run_from messages state (seen ++ more) ≡ run_from messages state seen ++ run_from messages (state_after messages state seen) more
run_append messages state [] more = refl
run_append messages state (heard ∷ seen) more =
    ap (λ (l : List (List ℕ)). option_to_list (answered messages state heard).answer ++ l) (run_append messages (answered messages state heard).state seen more)
    ∙ sym (append_assoc (option_to_list (answered messages state heard).answer) (run_from messages (answered messages state heard).state seen)
    (run_from messages (state_after messages (answered messages state heard).state seen) more))

pub after_append : (messages : Request → Option (List ℕ)) (state : LinkState) (seen more : List Heard)
    → state_after messages state (seen ++ more) ≡ state_after messages (state_after messages state seen) more
after_append messages state [] more = refl
after_append messages state (heard ∷ seen) more = after_append messages (answered messages state heard).state seen more

abbrev written : List (List ℕ) → List ℕ
written frames = concat (map (written_to side.Loader) frames)

written_append : (a b : List (List ℕ)) → written (a ++ b) ≡ written a ++ written b
written_append a b = ap (λ (l : List (List ℕ)). concat l) (map-append (written_to side.Loader) a b) ∙ concat-append (map (written_to side.Loader) a) (map (written_to side.Loader) b)

pub line_answers : (messages : Request → Option (List ℕ)) (line : Line) (bytes more : List ℕ)
    → answers_from messages line (bytes ++ more) ≡ answers_from messages line bytes ++ answers_from messages (line_after messages line bytes) more
line_answers messages line bytes more =
    let seen : List Heard = heard_in side.Unit line.kept bytes in
    let next : List Heard = heard_in side.Unit (kept_after side.Unit line.kept bytes) more in
    ap (λ (h : List Heard). written (run_from messages line.state h)) (heard_append side.Unit line.kept bytes more)
    ∙ ap (λ (l : List (List ℕ)). written l) (run_append messages line.state seen next)
    ∙ written_append (run_from messages line.state seen) (run_from messages (state_after messages line.state seen) next)

abbrev line_of : List ℕ → LinkState → Line
line_of kept state = record { kept = kept; state = state }

same_line : (k l : List ℕ) (s t : LinkState) → k ≡ l → s ≡ t → line_of k s ≡ line_of l t
same_line k l s t kept state = ap (λ (x : List ℕ). line_of x s) kept ∙ ap (λ (x : LinkState). line_of l x) state

pub line_stands : (messages : Request → Option (List ℕ)) (line : Line) (bytes more : List ℕ)
    → line_after messages line (bytes ++ more) ≡ line_after messages (line_after messages line bytes) more
line_stands messages line bytes more =
    let seen : List Heard = heard_in side.Unit line.kept bytes in
    let next : List Heard = heard_in side.Unit (kept_after side.Unit line.kept bytes) more in
    let kept : kept_after side.Unit line.kept (bytes ++ more) ≡ kept_after side.Unit (kept_after side.Unit line.kept bytes) more = kept_append side.Unit line.kept bytes more in
    let state : state_after messages line.state (heard_in side.Unit line.kept (bytes ++ more)) ≡ state_after messages (state_after messages line.state seen) next =
    ap (λ (h : List Heard). state_after messages line.state h) (heard_append side.Unit line.kept bytes more) ∙ after_append messages line.state seen next in
    same_line (kept_after side.Unit line.kept (bytes ++ more)) (kept_after side.Unit (kept_after side.Unit line.kept bytes) more)
    (state_after messages line.state (heard_in side.Unit line.kept (bytes ++ more))) (state_after messages (state_after messages line.state seen) next) kept state
