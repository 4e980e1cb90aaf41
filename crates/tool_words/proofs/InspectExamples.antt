-- Worked calls that inspect images, computed.
use Rattle.std.proofs.Common.{refl, [], ◌∷◌, None, Some, codes}
use Rattle.clap.proofs.OnLiterals.{clap_on_literals}
use Rattle.envimage.specs.declared.image.ByteOrder.TheVariants.{Big, Little}
use Rattle.tool_words.proofs.CommandLineExamples.{AsksFor, IsRefused}
use Rattle.tool_words.specs.Asked.{configured, inspecting, misnamed, whole}
use Rattle.tool_words.specs.CommandLine.{ubtool}
use Rattle.tool_words.specs.declared.ask.OriginError.TheVariants.{ImageAndConfig, SecondNeedsImage}

-- inspect
inspected : AsksFor (codes "inspect" ∷ [])
    (inspecting (configured (codes "/etc/fw_env.config")) Little)
unfolding clap_on_literals ubtool
inspected = (refl, refl)

-- inspect -c f --big-endian
inspected_config : AsksFor (codes "inspect" ∷ codes "-c" ∷ codes "f" ∷ codes "--big-endian" ∷ [])
    (inspecting (configured (codes "f")) Big)
unfolding clap_on_literals ubtool
inspected_config = (refl, refl)

-- inspect -i f
inspected_image : AsksFor (codes "inspect" ∷ codes "-i" ∷ codes "f" ∷ [])
    (inspecting (whole (codes "f") None) Little)
unfolding clap_on_literals ubtool
inspected_image = (refl, refl)

-- inspect --image f --second g
inspected_pair : AsksFor (codes "inspect" ∷ codes "--image" ∷ codes "f" ∷ codes "--second" ∷ codes "g" ∷ [])
    (inspecting (whole (codes "f") (Some (codes "g"))) Little)
unfolding clap_on_literals ubtool
inspected_pair = (refl, refl)

-- inspect -c f -i g
inspected_both : AsksFor (codes "inspect" ∷ codes "-c" ∷ codes "f" ∷ codes "-i" ∷ codes "g" ∷ [])
    (misnamed ImageAndConfig)
unfolding clap_on_literals ubtool
inspected_both = (refl, refl)

-- inspect --second g
inspected_second : AsksFor (codes "inspect" ∷ codes "--second" ∷ codes "g" ∷ [])
    (misnamed SecondNeedsImage)
unfolding clap_on_literals ubtool
inspected_second = (refl, refl)

-- inspect --text f
inspected_text : IsRefused (codes "inspect" ∷ codes "--text" ∷ codes "f" ∷ [])
unfolding clap_on_literals ubtool
inspected_text = refl

-- inspect a
inspected_name : IsRefused (codes "inspect" ∷ codes "a" ∷ [])
unfolding clap_on_literals ubtool
inspected_name = refl
