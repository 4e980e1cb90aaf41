-- The byte order of an image: ours, since an image does not say it.
use Rattle.std.specs.Prelude.{ℕ, List, Option, None, Some, is_ok, if◌then◌else◌}
use Rattle.envimage.specs.Image.{load_of}
use Rattle.envimage.specs.declared.image.ByteOrder.{ByteOrder}
use Rattle.envimage.specs.declared.image.ByteOrder.TheVariants.{Little, Big}

-- the first of both orders in which a single image is loaded
abbrev pub order_of : List ℕ → Option ByteOrder
order_of image =
    if is_ok (load_of Little image None) then Some Little
    else (if is_ok (load_of Big image None) then Some Big else None)
