mod Bodies
mod Trips
mod Laying
