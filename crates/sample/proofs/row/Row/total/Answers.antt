-- `sample::row::Row::total` meets its contract: the count of ones is that of the known positions.
use Rattle.sample.proofs.ShownRows.{shown-total}
use Rattle.sample.proofs.row.Row.total.Goals as goal

pub returns : goal.returns
returns c = λ of ok e. shown-total of _ ok _ e
