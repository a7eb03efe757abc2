use Rattle.minute_rules.proofs.minutes.Minutes.feed.Given as goal

abbrev pub ghosts-feed_once : goal.ghosts-feed_once
ghosts-feed_once a = record { name = a.blank.name; parts = a.blank.parts }
