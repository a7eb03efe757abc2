use Rattle.link_loader.proofs.downloader.Downloader.join.Goals as goal

pub returns-in-Err-clause-refused : goal.returns-in-Err-clause-refused
returns-in-Err-clause-refused g c = (c.args.request, c.requires.kind)
