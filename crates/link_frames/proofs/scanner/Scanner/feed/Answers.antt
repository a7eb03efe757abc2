use Rattle.std.proofs.Common.{ℕ, List, ◌++◌, drop, option_map, option_to_list, subst}
use Rattle.link_model.specs.Frames.{Heard, Stream}
use Rattle.link_model.proofs.Bytes.{kept_unfinished}
use Rattle.link_frames.specs.Seen.{meant}
use Rattle.link_frames.specs.Scanning.{Scan}
use Rattle.link_frames.proofs.Turns.{fed}
use Rattle.link_frames.proofs.scanner.Scanner.feed.Goals as goal

pub returns-clause-stream : goal.returns-clause-stream
returns-clause-stream c =
    let P : Scan → Type 0 = λ s. (more : List ℕ) (seen : List Heard) (rest : List ℕ) → Stream s.end (c.hear.new.kept.items ++ (drop c.hear.result.0 c.args.bytes.now ++ more)) seen rest
    → Stream s.end (s.kept ++ (c.args.bytes.now ++ more)) (option_to_list (option_map meant c.hear.result.1) ++ seen) rest in
    subst P c.self.view_is
    (fed c.self.inside.end c.self.inside.kept.items c.hear.new.kept.items c.args.bytes.now c.hear.result.0 (option_to_list (option_map meant c.hear.result.1)) c.self.invariant
    c.hear.ensures.heard c.hear.ensures.kept)

pub returns-clause-unfinished : goal.returns-clause-unfinished
returns-clause-unfinished c = kept_unfinished c.self.inside.end c.hear.new.kept.items c.hear.ensures.stays
