-- What is sent behind a message, by the request that it answers.
use Rattle.std.proofs.Common.{◌≡◌, ◌∙◌, ℕ, List, [], ap, sym, append-nil}
use Rattle.link_model.specs.declared.request.Request.TheVariants.{Overview as AskOverview}
use Rattle.message_model.specs.Messages.{Message, Overview, AnOverview, ADay, AnEventList, ASpeedList, ATechnical, message_bytes}
use Rattle.unit_messages.specs.declared.reading.OverviewRead.{OverviewRead}
use Rattle.unit_messages.specs.Reading.{BeginsWith, IsOverviewRead}
use Rattle.link_loader.specs.declared.stage.Stage.{Stage}
use Rattle.link_loader.specs.declared.stage.Next.{Next}
use Rattle.link_loader.specs.Stages.{first_day}
use Rattle.link_loader.specs.Loading.{IsAnswer, next_of}

abbrev pub next : Stage → ℕ → Next
next stage end = record { stage = stage; end = end }

pub overview_next : (bytes : List ℕ) (end : ℕ) (m : Message) (told : OverviewRead) (stage : Stage) → IsAnswer AskOverview bytes m
    → ((o : Overview) → BeginsWith (AnOverview o) bytes → IsOverviewRead o told) → stage ≡ first_day told.begin.0 told.end.0 → next stage told.end.0 ≡ next_of end m
overview_next bytes end (AnOverview o) told stage a reads is =
    let read = reads o (record { is_message = a.is_message; rest = []; spelled = a.spelled ∙ sym (append-nil (message_bytes (AnOverview o))) }) in
    ap (λ (s : Stage). next s told.end.0) is ∙ ap (λ (n : ℕ). next (first_day n told.end.0) told.end.0) read.begin ∙ ap (λ (n : ℕ). next (first_day o.begin n) n) read.end
overview_next bytes end (ADay d) told stage a reads is = let asked = a.asked in absurd (cc)
overview_next bytes end (AnEventList e) told stage a reads is = let asked = a.asked in absurd (cc)
overview_next bytes end (ASpeedList s) told stage a reads is = let asked = a.asked in absurd (cc)
overview_next bytes end (ATechnical t) told stage a reads is = let asked = a.asked in absurd (cc)
