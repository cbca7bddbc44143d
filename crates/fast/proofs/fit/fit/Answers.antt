use Rattle.fast.proofs.Formatted.{out_of_range, worn_out, fits_well}
use Rattle.fast.proofs.fit.fit.Goals as goal

pub returns-then-not-geometry_fits : goal.returns-then-not-geometry_fits
returns-then-not-geometry_fits g c = record { answer = out_of_range (g.D.Device.flash c.args.device.now) c.args.plan.logical c.args.plan.random c.if-not-geometry_fits.ensures }

pub returns-then-worn : goal.returns-then-worn
returns-then-worn g c = record { answer = worn_out (g.D.Device.flash c.args.device.now) c.args.plan.logical c.args.plan.random c.if-not-geometry_fits.ensures c.if-worn.ensures }

pub returns : goal.returns
returns g c = record { answer = fits_well (g.D.Device.flash c.args.device.now) c.args.plan.logical c.args.plan.random c.if-not-geometry_fits.ensures c.if-worn.ensures }
