-- What bytes carry is what the promises of a system ask of an event: the two say the same of each kind.
use Rattle.model.specs.Desk.{make, close, move, raise, show, fill, put, copy, offer, point, press, key, paste}
use Rattle.model.specs.Promise as promise
use Rattle.model.specs.Promise.{Fits, Colours}
use Rattle.protocol.specs.Laws.{Carried, Near, Row}
use Rattle.protocol.specs.Fitting.{FitsCarried}

pub fits-carried : FitsCarried
unfolding FitsCarried Carried Fits Near Row Colours promise.Near
fits-carried z (make c x y w h) = (λ h. h, λ h. h)
fits-carried z (close c n) = (λ h. h, λ h. h)
fits-carried z (move c n x y) = (λ h. h, λ h. h)
fits-carried z (raise c n) = (λ h. h, λ h. h)
fits-carried z (show c n b) = (λ h. h, λ h. h)
fits-carried z (fill c n x y w h q) = (λ h. h, λ h. h)
fits-carried z (put c n x y l) = (λ h. h, λ h. h)
fits-carried z (copy c n x y w h a b) = (λ h. h, λ h. h)
fits-carried z (offer c l) = (λ h. h, λ h. h)
fits-carried z (point x y) = (λ h. h, λ h. h)
fits-carried z (press b) = (λ h. h, λ h. h)
fits-carried z (key k) = (λ h. h, λ h. h)
fits-carried z paste = (λ h. h, λ h. h)
