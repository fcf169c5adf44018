mod Changing
mod Looking
mod Room
mod Beginning
mod Filling
mod Clearing
