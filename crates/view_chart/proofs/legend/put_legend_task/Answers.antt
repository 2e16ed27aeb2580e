use Rattle.view_chart.specs.Legends.{legend_task}
use Rattle.view_chart.proofs.legend.put_legend_task.Goals as goal

pub returns : goal.returns
unfolding legend_task
returns g c = c.put_pieces.ensures
