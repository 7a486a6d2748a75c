-- What views of statements stand for.
use Rattle.std.specs.List.{flat_map}
use Rattle.elab_flat_widths.specs.declared.site.Site.{Site}
use Rattle.elab_flat_widths.specs.declared.site.Site.TheVariants as v
use Rattle.elab_flat_widths.specs.Usages.{Usage, Tests, Compares, Stores, item_labels}

abbrev pub site_meant : Site → Usage
site_meant (v.Test a) = Tests a.now
site_meant (v.Cases a items) = Compares (record { value = a.now; labels = flat_map item_labels items.now })
site_meant (v.Store left right) = Stores (record { left = left.now; right = right.now })
