-- What the code's runs say: how many there are, which number comes behind the last, and the slice that is lent for their pairs.
use Rattle.panes.specs.declared.Runs.{Runs}
use Rattle.panes.specs.Panes.{Tally, tally}

abbrev pub told : Runs → Tally
told r = tally r.count r.behind r.pairs.now
