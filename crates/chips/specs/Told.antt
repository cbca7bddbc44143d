-- Why there is no blank image, in words.
use Rattle.std.specs.Prelude.{ℕ, List, codes}
use Rattle.chips.specs.declared.blank.NoImage.{NoImage}
use Rattle.chips.specs.declared.blank.NoImage.TheVariants.{OutOfRange, NoMemory}

abbrev pub no_image_text : NoImage → List ℕ
no_image_text OutOfRange = codes "no image may state the geometry"
no_image_text NoMemory = codes "no memory for the image"
