-- The measure is what is left of 255 above the site's rank, since ranks rise along links.
use Rattle.std.proofs.Common.{◌-◌, get_or}
use Rattle.clusters.proofs.winding.Winding.+find.Given as goal

abbrev pub decreases-find : goal.decreases-find
decreases-find l = 255 - get_or l.self.now.ranks.now l.site 0
