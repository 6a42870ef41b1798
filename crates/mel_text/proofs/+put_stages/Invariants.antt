use Rattle.mel_text.proofs.+put_stages.Given as goal

abbrev pub decreases-put_stages : goal.decreases-put_stages
decreases-put_stages l = l.q
