use Rattle.tacho.proofs.reading_command.reading_text.Goals as goal

pub returns-in-View-clause-text : goal.returns-in-View-clause-text
returns-in-View-clause-text c = rw c.in-View.is c.file_view.ensures.text

pub returns-in-View-clause-err : goal.returns-in-View-clause-err
returns-in-View-clause-err c = rw c.in-View.is c.file_view.ensures.err

pub returns-in-Match-clause-text : goal.returns-in-Match-clause-text
returns-in-Match-clause-text c = rw c.in-Match.is c.match_answer.ensures.text

pub returns-in-Match-clause-err : goal.returns-in-Match-clause-err
returns-in-Match-clause-err c = rw c.in-Match.is c.match_answer.ensures.err

pub returns-in-MatchAll-clause-text : goal.returns-in-MatchAll-clause-text
returns-in-MatchAll-clause-text c = rw c.in-MatchAll.is c.match_all_answer.ensures.text

pub returns-in-MatchAll-clause-err : goal.returns-in-MatchAll-clause-err
returns-in-MatchAll-clause-err c = rw c.in-MatchAll.is c.match_all_answer.ensures.err

pub returns-in-ByHand-clause-text : goal.returns-in-ByHand-clause-text
returns-in-ByHand-clause-text c = rw c.in-ByHand.is c.hand_view.ensures.text

pub returns-in-ByHand-clause-err : goal.returns-in-ByHand-clause-err
returns-in-ByHand-clause-err c = rw c.in-ByHand.is c.hand_view.ensures.err

pub returns-in-Totals-clause-text : goal.returns-in-Totals-clause-text
returns-in-Totals-clause-text c = rw c.in-Totals.is c.file_totals.ensures.text

pub returns-in-Totals-clause-err : goal.returns-in-Totals-clause-err
returns-in-Totals-clause-err c = rw c.in-Totals.is c.file_totals.ensures.err

pub returns-in-Chart-clause-text : goal.returns-in-Chart-clause-text
returns-in-Chart-clause-text c = rw c.in-Chart.is c.file_chart.ensures.text

pub returns-in-Chart-clause-err : goal.returns-in-Chart-clause-err
returns-in-Chart-clause-err c = rw c.in-Chart.is c.file_chart.ensures.err

pub returns-in-Speeds-clause-text : goal.returns-in-Speeds-clause-text
returns-in-Speeds-clause-text c = rw c.in-Speeds.is c.file_speeds.ensures.text

pub returns-in-Speeds-clause-err : goal.returns-in-Speeds-clause-err
returns-in-Speeds-clause-err c = rw c.in-Speeds.is c.file_speeds.ensures.err

pub unreachable-requires : goal.unreachable-requires
unreachable-requires c = rw c.in-Show.is at c.requires.whole
