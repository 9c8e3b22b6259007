use Rattle.plain_race.proofs.words.no_words.Given as goal

abbrev pub ghosts-words_on : goal.ghosts-words_on
ghosts-words_on a = record { table = a.fresh.table; objects = a.fresh.objects }
